use Rattle.std.proofs.Common.{◌++◌, append-nil, sym, ap, ◌∙◌}
use Rattle.plan_components.specs.Chosen.{condition_holds, selection_of}
use Rattle.plan_components.proofs.Conditions.{no_needs}
use Rattle.plan_components.proofs.needs.push_component.Goals as goal

pub returns-else-condition_holds : goal.returns-else-condition_holds
returns-else-condition_holds c =
    let selection = selection_of c.args.chosen.now in
    let flags = c.args.owner.now.known.now.flags in
    let needs = c.args.needs.now in
    let false = sym (c.condition_holds.ensures ∙ ap (condition_holds selection.env flags) c.buildable.ensures) ∙ c.if-condition_holds.false in
    sym (append-nil needs) ∙ ap (λ l. needs ++ l) (sym (no_needs selection flags c.args.dependent.now.own c.args.dependent.now.component.now c.args.owner.now.node false))
