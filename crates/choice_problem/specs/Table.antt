-- Partial maps from variables to numbers.
use Rattle.std.specs.Prelude.{ℕ, cond, List, Option, Some, None}
use Rattle.std.specs.Map.{lookup}
use Rattle.qualified_goals.specs.declared.variable.Var.{Var}
use Rattle.qualified_goals.specs.Variable.{same_var}

-- the entry of a variable
abbrev pub entry : List (Var × ℕ) → Var → Option ℕ
entry entries v = lookup (same_var v) entries

-- the map with this entry of a variable
abbrev pub with_entry : Var → ℕ → (Var → Option ℕ) → Var → Option ℕ
with_entry v n old w = cond (same_var v w) (Some n) (old w)

-- the map without the entry of a variable
abbrev pub without_entry : Var → (Var → Option ℕ) → Var → Option ℕ
without_entry v old w = cond (same_var v w) None (old w)
