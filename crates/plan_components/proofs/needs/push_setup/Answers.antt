use Rattle.plan_components.specs.Chosen.{selection_of}
use Rattle.plan_components.specs.Needs.{dep_needs}
use Rattle.plan_components.proofs.Turns.{turn}
use Rattle.plan_components.proofs.needs.push_setup.Goals as goal

pub loop-dep-preserved : goal.loop-dep-preserved
loop-dep-preserved c =
    turn (dep_needs (selection_of c.args.chosen.now) c.args.owner.now.node) c.args.deps.now c.loop-dep.dep-index c.dep-item.result c.loop-dep-test.true c.dep-item.is
    c.args.needs.now c.loop-dep.needs c.push_dep.new.needs c.loop-dep.invariant c.in_ok-push_dep.ensures
