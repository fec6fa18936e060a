-- Assignments, and which demands are Yes or met under them.
use Rattle.std.specs.Prelude.{ℕ, Bool, false, nat_eq, List, [], ◌∷◌, Option, Some, None}
use Rattle.std.specs.List.{list_all, list_any}
use Rattle.qualified_goals.specs.declared.variable.Var.{Var}
use Rattle.choice_problem.specs.declared.problem.Choice.{Choice}
use Rattle.choice_problem.specs.declared.problem.Demand.{Demand}

-- a partial map from variables to values
abbrev pub Assignment : Type 0
Assignment = Var → Option ℕ

-- whether there is a value, and it is one of these
abbrev pub is_one_of : Option ℕ → List ℕ → Bool
is_one_of None values = false
is_one_of (Some n) values = list_any (λ m. nat_eq n m) values

-- whether A makes the choice
abbrev pub is_made : Assignment → Choice → Bool
is_made A c = is_one_of (A c.var) (c.val ∷ [])

-- a demand is Yes where every choice of its condition is made
abbrev pub is_yes : Assignment → Demand → Bool
is_yes A d = list_all (is_made A) d.when

-- its target has an allowed value
abbrev pub is_met : Assignment → Demand → Bool
is_met A d = is_one_of (A d.target) d.allowed
