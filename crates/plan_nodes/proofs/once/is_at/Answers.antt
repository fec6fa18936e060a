use Rattle.std.proofs.Common.{sym, ap, ◌∙◌}
use Rattle.std.proofs.lemmas.Bool.{ltb-true}
use Rattle.plan_nodes.specs.contracts.node.PlanNodePartialEq.TheImpl.{eq-value as same_node}
use Rattle.plan_nodes.proofs.Kept.{equal_at}
use Rattle.plan_nodes.proofs.once.is_at.Goals as goal

pub returns-in-Some : goal.returns-in-Some
returns-in-Some c h =
    let found = c.in-Some.ensures.lookup in
    let other = c.in-Some.other.now in
    equal_at c.args.node.now c.args.kept.now c.args.place other (ltb-true c.args.place _ (sym found.0))
    (ap (λ k. same_node.it k c.args.node.now) (sym found.1) ∙ (sym c.eq.ensures ∙ h))
