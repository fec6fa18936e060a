use Rattle.std.proofs.Common.{◌≡◌, ◌≤◌}
use Rattle.plan_types.specs.declared.condition.Cond.{size-Cond}
use Rattle.plan_components.specs.Chosen.{condition_holds}
use Rattle.plan_components.proofs.chosen.Chosen.+condition_holds.Given as goal

abbrev pub decreases-condition_holds : goal.decreases-condition_holds
decreases-condition_holds l = size-Cond l.cond.now

-- if the last sides are Yes, the rest decides, and it is no larger than the whole
abbrev pub invariant-loop-left : goal.invariant-loop-left
invariant-loop-left l = (condition_holds l.self.env.now l.flags l.left ≡ condition_holds l.self.env.now l.flags l.cond) × (size-Cond l.left ≤ size-Cond l.cond)

abbrev pub decreases-loop-left : goal.decreases-loop-left
decreases-loop-left l = size-Cond l.left
