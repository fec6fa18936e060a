-- The paths of a condition, kept once for all dependencies of a component or of a group.
use Rattle.std.specs.Prelude.{ℕ, ◌-◌, ◌*◌, ◌^◌, true, nat_eq, nat_lt, min, if◌then◌else◌, List, [], length}
use Rattle.plan_types.specs.declared.condition.Cond.{Cond}
use Rattle.plan_types.specs.declared.condition.Env.{Env}
use Rattle.conditionals.specs.Paths.{Path, paths_of, followed, clean_paths}
use Rattle.flatten.specs.declared.ways.Ways.{Ways}

-- the paths that aren't contradictory; none if there are more than 256 in all
abbrev pub few_paths : List Path → List Path
few_paths paths = if nat_lt 256 (length paths) then [] else clean_paths paths

-- the paths under which a condition is Yes, with their number
abbrev pub ways_of : Env → Cond → Ways
ways_of env cond = record { number = min (length (paths_of env cond true)) (2 ^ 64 - 1); paths = few_paths (paths_of env cond true) }

-- the number of paths of a conjunction
abbrev pub number_of_both : Ways → Ways → ℕ
number_of_both ways met = min (ways.number * met.number) (2 ^ 64 - 1)

-- the paths of a conjunction that aren't contradictory
abbrev pub paths_of_both : Ways → Ways → List Path
paths_of_both ways met = if nat_eq (number_of_both ways met) 0 then [] else clean_paths (followed ways.paths met.paths)
