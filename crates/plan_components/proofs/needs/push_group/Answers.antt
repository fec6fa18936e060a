use Rattle.std.proofs.Common.{◌≡◌, ◌++◌, true, false, append-nil, flat_map, sym, ap, ◌∙◌}
use Rattle.std.specs.Prelude.{filter}
use Rattle.plan_components.specs.Chosen.{condition_holds, selection_of}
use Rattle.plan_components.specs.Needs.{dep_needs, is_asked}
use Rattle.plan_components.proofs.Conditions.{all-among, none-among}
use Rattle.plan_components.proofs.needs.push_group.Goals as goal

pub returns-in_ok-push_asked : goal.returns-in_ok-push_asked
returns-in_ok-push_asked c =
    let selection = selection_of c.args.chosen.now in
    let node = c.args.owner.now.node in
    let flags = c.args.owner.now.known.now.flags in
    let group = c.args.group.now in
    let met : condition_holds selection.env flags group.when ≡ true = ap (condition_holds selection.env flags) (sym c.get.ensures) ∙ sym c.condition_holds.ensures ∙ c.if-condition_holds.true in
    c.in_ok-push_asked.ensures
    ∙ ap (λ deps. c.args.needs.now ++ flat_map (dep_needs selection node) (filter (is_asked c.args.dependent.now.own) deps)) c.as_slice.ensures
    ∙ ap (λ l. c.args.needs.now ++ l) (sym (all-among selection flags c.args.dependent.now.own c.args.dependent.now.component.now c.requires.built group.when node met group.deps))

pub returns-else-condition_holds : goal.returns-else-condition_holds
returns-else-condition_holds c =
    let selection = selection_of c.args.chosen.now in
    let flags = c.args.owner.now.known.now.flags in
    let group = c.args.group.now in
    let unmet : condition_holds selection.env flags group.when ≡ false = ap (condition_holds selection.env flags) (sym c.get.ensures) ∙ sym c.condition_holds.ensures ∙ c.if-condition_holds.false in
    sym (ap (λ l. c.args.needs.now ++ l) (none-among selection flags c.args.dependent.now.own c.args.dependent.now.component.now c.requires.built group.when c.args.owner.now.node unmet group.deps) ∙ append-nil c.args.needs.now)
