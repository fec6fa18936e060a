use Rattle.std.proofs.Common.{◌-◌}
use Rattle.plan_jobs.proofs.Tree.{IsOnWay}
use Rattle.plan_jobs.proofs.marks.first_leaf.Given as goal

abbrev pub invariant-loop-at : goal.invariant-loop-at
invariant-loop-at l = IsOnWay l.width l.tree l.at

abbrev pub decreases-loop-at : goal.decreases-loop-at
decreases-loop-at l = l.width - l.at
