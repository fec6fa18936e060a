-- Sets of variables as lists in the order in which they were added, and an index of one.
use Rattle.std.specs.Prelude.{◌≡◌, cond, List, [], ◌∷◌, ◌++◌}
use Rattle.qualified_goals.specs.declared.variable.Var.{Var}
use Rattle.choice_problem.specs.ConflictSet.{has}

-- the keys with one more, unless it is among them
abbrev pub with_key : List Var → Var → List Var
with_key keys v = cond (has keys v) keys (keys ++ v ∷ [])

-- the keys with several more, each once
abbrev pub with_keys : List Var → List Var → List Var
with_keys keys [] = keys
with_keys keys (v ∷ vars) = with_keys (with_key keys v) vars

-- an index has the variables as its keys, in any order
abbrev pub IsIndexOf : List Var → List Var → Type 0
IsIndexOf vars keys = (v : Var) → has keys v ≡ has vars v
