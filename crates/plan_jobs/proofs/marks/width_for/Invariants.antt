use Rattle.std.proofs.Common.{◌-◌, ◌≤◌}
use Rattle.plan_jobs.specs.Marks.{IsPower}
use Rattle.plan_jobs.proofs.marks.width_for.Given as goal

abbrev pub invariant-loop-width : goal.invariant-loop-width
invariant-loop-width l = IsPower l.width × (1 ≤ l.width)

abbrev pub decreases-loop-width : goal.decreases-loop-width
decreases-loop-width l = l.places - l.width
