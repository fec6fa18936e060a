-- Settings in a map from flags to values.
use Rattle.std.specs.Prelude.{ℕ, Bool, List}
use Rattle.plan_types.specs.declared.condition.FlagSet.{FlagSet}

-- an entry as a setting
abbrev pub setting_of : List ℕ × Bool → FlagSet
setting_of entry = record { name = entry.0; on = entry.1 }
