-- the rank is removed from the part that has it
use Rattle.std.proofs.Common.{sym, ap, ◌∙◌, not, ◌&&◌}
use Rattle.count_search.specs.Ranks.{has_rank, same_rank}
use Rattle.count_search.proofs.Parts.{inside-apart, removed-inside, removed-last, removed-second, second-apart}
use Rattle.count_search.proofs.ranks.Ranks.remove.Goals as goal

pub returns-then-is_held : goal.returns-then-is_held
returns-then-is_held c r =
    let s = c.self.inside in
    removed-last s.last s.second s.tree.keys c.self.invariant c.args.rank (sym c.is_held.ensures ∙ c.if-is_held.true) r
    ∙ ap (λ l. not (same_rank c.args.rank r) && has_rank l r) c.self.view_is

pub invariant_of-self-then-is_held-2 : goal.invariant_of-self-then-is_held-2
invariant_of-self-then-is_held-2 c =
    let s = c.self.inside in
    second-apart s.last s.second s.tree.keys c.self.invariant

pub returns-then-is_held-2 : goal.returns-then-is_held-2
returns-then-is_held-2 c r =
    let s = c.self.inside in
    removed-second s.last s.second s.tree.keys c.self.invariant c.args.rank (sym c.is_held.ensures ∙ c.if-is_held.false) (sym c.is_held-2.ensures ∙ c.if-is_held-2.true) r
    ∙ ap (λ l. not (same_rank c.args.rank r) && has_rank l r) c.self.view_is

pub invariant_of-self-2 : goal.invariant_of-self-2
invariant_of-self-2 c =
    let s = c.self.inside in
    inside-apart s.last s.second s.tree.keys c.self.invariant c.args.rank c.take_out.new.tree.keys c.take_out.ensures

pub returns : goal.returns
returns c r =
    let s = c.self.inside in
    removed-inside s.last s.second s.tree.keys c.self.invariant c.args.rank c.take_out.new.tree.keys c.take_out.ensures
    (sym c.is_held.ensures ∙ c.if-is_held.false) (sym c.is_held-2.ensures ∙ c.if-is_held-2.false) r
    ∙ ap (λ l. not (same_rank c.args.rank r) && has_rank l r) c.self.view_is
