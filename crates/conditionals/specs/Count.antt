-- The numbers of paths of conditions.
use Rattle.std.specs.Prelude.{◌-◌, ◌^◌, true, false, min, length}
use Rattle.plan_types.specs.declared.condition.Cond.{Cond}
use Rattle.plan_types.specs.declared.condition.Env.{Env}
use Rattle.conditionals.specs.Paths.{paths_of}
use Rattle.conditionals.specs.declared.count.PathCounts.{PathCounts}

-- the numbers of a condition's paths for true and for false, each at most 2^64 - 1
abbrev pub numbers_of : Env → Cond → PathCounts
numbers_of env cond = record { yes = min (length (paths_of env cond true)) (2 ^ 64 - 1); no = min (length (paths_of env cond false)) (2 ^ 64 - 1) }
