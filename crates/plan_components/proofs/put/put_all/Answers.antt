use Rattle.std.proofs.Common.{sym, subst, take, ◌+◌}
use Rattle.plan_components.specs.declared.node.Node.{Node}
use Rattle.plan_components.specs.Steps.{AppendsNew, no_node}
use Rattle.plan_components.proofs.AddedNodes.{puts_more, same-list}
use Rattle.plan_components.proofs.put.put_all.Goals as goal

pub loop-other-preserved : goal.loop-other-preserved
loop-other-preserved c =
    let others = c.args.others.now in
    let i = c.loop-other.other-index in
    let old = c.args.nodes.now.keys in
    subst (λ l. AppendsNew l old c.put.new.nodes.keys) (same-list (take (i + 1) others))
    (puts_more (λ (n : Node). n) others i no_node c.loop-other-test.true old c.loop-other.nodes.keys c.put.new.nodes.keys
    (subst (λ l. AppendsNew l old c.loop-other.nodes.keys) (sym (same-list (take i others))) c.loop-other.invariant) c.in_ok-put.ensures.put)
