use Rattle.plan_jobs.proofs.Tree.{IsOnWayUp}
use Rattle.plan_jobs.proofs.marks.set_leaf.Given as goal

abbrev pub invariant-loop-at : goal.invariant-loop-at
invariant-loop-at l = IsOnWayUp l.width l.fn.tree l.tree l.place l.mark l.at

abbrev pub decreases-loop-at : goal.decreases-loop-at
decreases-loop-at l = l.at
