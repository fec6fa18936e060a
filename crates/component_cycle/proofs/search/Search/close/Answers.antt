use Rattle.std.proofs.Common.{◌≡◌, sym, subst, arith}
use Rattle.component_cycle.specs.Search.{Lowers}
use Rattle.component_cycle.proofs.Closes.{group-starts, group-in-states, group-in-graph, closed-steps}
use Rattle.component_cycle.proofs.Joins.{popped-is}
use Rattle.component_cycle.proofs.search.Search.close.Goals as goal

pub behind-group-requires : goal.behind-group-requires
behind-group-requires c =
    let starts = group-starts c.args.needs.now c.args.self.now c.requires.sound c.requires.mark.0 c.args.mark c.requires.mark.1 c.requires.none in
    omega (arith, starts)

pub is_cyclic-on_cycle-requires : goal.is_cyclic-on_cycle-requires
is_cyclic-on_cycle-requires c =
    group-in-graph c.args.needs.now c.args.self.now c.requires.sound c.requires.mark.0 c.args.mark c.requires.mark.1 c.requires.none c.behind-group.result.now c.behind-group.ensures

pub finish_all-requires : goal.finish_all-requires
finish_all-requires c =
    record { inside = group-in-states c.args.needs.now c.args.self.now c.requires.sound c.requires.mark.0 c.args.mark c.requires.mark.1 c.requires.none c.behind-group.result.now c.behind-group.ensures }

pub returns : goal.returns
returns c =
    let s = c.args.self.now in
    let ms = c.requires.mark.0 in
    let set = c.finish_all.ensures in
    let popped : c.pop.new.self ≡ ms = popped-is c.pop.result s.marks c.pop.new.self ms c.args.mark c.pop.ensures c.requires.mark.1 in
    let steps = closed-steps c.args.needs.now s c.requires.sound ms c.args.mark c.requires.mark.1 c.requires.none c.behind-group.result.now c.behind-group.ensures
    c.is_cyclic-on_cycle.result c.is_cyclic-on_cycle.ensures c.finish_all.new.states set.count set.settled set.others set.costs in
    subst (λ ms. Lowers c.args.needs.now s (record { states = c.finish_all.new.states; path = c.truncate.new.self; waiting = s.waiting; marks = ms })) (sym popped)
    (subst (λ path. Lowers c.args.needs.now s (record { states = c.finish_all.new.states; path = path; waiting = s.waiting; marks = ms })) (sym c.truncate.ensures) steps)
