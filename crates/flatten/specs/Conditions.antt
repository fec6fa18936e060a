-- Well-formed conditions: their flags are declared, and their versions can be written.
use Rattle.std.specs.Prelude.{ℕ, Bool, true, ◌&&◌, List}
use Rattle.plan_types.specs.declared.condition.Cond.{Cond}
use Rattle.plan_types.specs.declared.condition.Cond.TheOpen.{Cond-F, Always, Never, Flag, Os, Arch, Impl, Not, And, Or}
use Rattle.plan_types.specs.declared.condition.Cond.TheFolds.{fold-Cond}
use Rattle.version_range.specs.Version.{has_versions}

-- one layer of a condition whose parts were tested
abbrev pub asks_step : (List ℕ → Bool) → Cond-F Bool → Bool
asks_step is_declared Always = true
asks_step is_declared Never = true
asks_step is_declared (Flag name) = is_declared name
asks_step is_declared (Os name) = true
asks_step is_declared (Arch name) = true
asks_step is_declared (Impl name range) = has_versions range
asks_step is_declared (Not inner) = inner
asks_step is_declared (And left right) = left && right
asks_step is_declared (Or left right) = left && right

-- each flag of the condition is declared, and each version in it can be written
abbrev pub is_well_formed : (List ℕ → Bool) → Cond → Bool
is_well_formed is_declared = fold-Cond Bool (asks_step is_declared)
