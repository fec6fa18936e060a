use Rattle.std.proofs.Common.{sym, subst, ap, ◌∙◌}
use Rattle.plan_components.specs.SameNode.{place_of}
use Rattle.plan_components.specs.Steps.{AppendsNew}
use Rattle.plan_components.proofs.AddedNodes.{puts_key}
use Rattle.plan_components.proofs.NeedPlaces.{puts_place}
use Rattle.plan_components.proofs.put.put.Goals as goal

pub returns-clause-put : goal.returns-clause-put
returns-clause-put c = subst (AppendsNew _ c.args.nodes.now.keys) (sym c.in_ok-place.ensures.keys) (puts_key c.args.nodes.now.keys c.args.node.now)

pub returns-clause-place : goal.returns-clause-place
returns-clause-place c =
    c.in_ok-place.ensures.index ∙ puts_place c.args.nodes.now.keys c.args.node.now
    ∙ ap (λ l. place_of l c.args.node.now) (sym c.in_ok-place.ensures.keys)
