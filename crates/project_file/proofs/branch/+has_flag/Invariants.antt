use Rattle.std.proofs.Common.{◌≡◌, ◌≤◌}
use Rattle.plan_types.specs.declared.condition.Cond.{size-Cond}
use Rattle.project_file.specs.Branches.{has_flag}
use Rattle.project_file.proofs.branch.+has_flag.Given as goal

-- the rest of the condition decides the whole, and is no larger
abbrev pub invariant-loop-left : goal.invariant-loop-left
invariant-loop-left l = (has_flag l.left ≡ has_flag l.cond) × (size-Cond l.left ≤ size-Cond l.cond)
