use Rattle.std.proofs.Common.{◌≡◌, take}
use Rattle.plan_task.proofs.task.copied.Given as goal

-- the warnings so far
abbrev pub invariant-loop-warning : goal.invariant-loop-warning
invariant-loop-warning l = l.copied ≡ take l.warning-index l.warnings
