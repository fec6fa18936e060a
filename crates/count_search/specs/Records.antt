-- Records of variables.
use Rattle.std.specs.Prelude.{◌≡◌, ℕ, ◌+◌, min, Bool, List, Option, Some}
use Rattle.std.specs.List.{slice_get}
use Rattle.std.specs.Map.{lookup}
use Rattle.qualified_goals.specs.declared.variable.Var.{Var}
use Rattle.qualified_goals.specs.Variable.{same_var}
use Rattle.choice_problem.specs.Guide.{cap}
use Rattle.count_search.specs.declared.records.Met.{Met}

-- the record of a variable
abbrev pub record_in : List (Var × Met) → Var → Option Met
record_in records v = lookup (same_var v) records

-- the record with one more set, up to cap
abbrev pub with_one_more : Met → Met
with_one_more met = record { sets = min (met.sets + 1) cap; chosen = met.chosen }

-- the record where this says whether the variable is chosen
abbrev pub marked : Bool → Met → Met
marked chosen met = record { sets = met.sets; chosen = chosen }

-- the record of a variable that was in no set
abbrev pub without_sets : Bool → Met
without_sets chosen = record { sets = 0; chosen = chosen }

-- the record of a variable, and its place
pub record IsPlaced (records : List (Var × Met)) (v : Var) (place : ℕ) (met : Met) : Type 0 where
  pub there : slice_get records place ≡ Some (v, met)
  pub first : record_in records v ≡ Some met
