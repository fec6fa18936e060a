-- Variables that have one value under all qualifiers.
use Rattle.std.specs.Prelude.{◌≡◌, ℕ, Bool, false, nat_eq, List}
use Rattle.qualified_goals.specs.declared.variable.Var.{Var}
use Rattle.choice_problem.specs.declared.problem.Choice.{Choice}
use Rattle.choice_problem.specs.Trail.{value_in}
use Rattle.choice_problem.specs.Twins.{differ, under}

-- whether a choice has this value
abbrev pub has_value : ℕ → Choice → Bool
has_value n c = nat_eq c.val n

-- under no choice's qualifier has the variable a value that differs from its own
abbrev pub IsAlike : List Choice → Var → Type 0
IsAlike trail v = (c : Choice) → differ (value_in trail v) (value_in trail (under c v)) ≡ false
