-- Facts about conditions, from those about their subconditions.
use Rattle.std.specs.Prelude.{◌≡◌, Bool, true, false, List, [], ◌∷◌, Option, Some, None, IfSome, IsFalse, slice_get}
use Rattle.std.specs.List.{list_any}
use Rattle.plan_types.specs.declared.condition.Cond.{Cond}
use Rattle.plan_types.specs.declared.condition.Env.{Env}
use Rattle.plan_types.specs.declared.conditions.Row.{Row}
use Rattle.plan_types.specs.declared.conditions.Row.TheVariants.{Own, Negated, Both}
use Rattle.conditionals.specs.Paths.{Path, holds}
use Rattle.conditionals.specs.Value.{Flags, value}
use Rattle.conditionals.specs.declared.value.Tri.TheVariants.{Yes}
use Rattle.impossible_conditions.specs.FlagSettings.{AreSet}
use Rattle.impossible_conditions.specs.declared.known.Facts.{Facts}

-- whether a row is `Own`
abbrev pub has_tests : Row → Bool
has_tests (Own cond) = true
has_tests (Negated inner) = false
has_tests (Both front last) = false

-- whether this is a row, and it is `Own`
abbrev pub has_tests_at : Option Row → Bool
has_tests_at None = false
has_tests_at (Some row) = has_tests row

-- whether a row is `Own`, or `!` of an `Own` row
abbrev pub is_own : List Row → Row → Bool
is_own rows (Own cond) = true
is_own rows (Negated inner) = has_tests_at (slice_get rows inner)
is_own rows (Both front last) = false

-- the facts allow these flags: `known_impossible` is false, and the flags have the settings
pub record Allows (flags : Flags) (known : Facts) : Type 0 where
  pub known_impossible : IsFalse known.known_impossible
  pub required : AreSet flags known.required

-- the facts about a condition are right: they allow all flags under which it is Yes
abbrev pub IsKnown : Env → Cond → Facts → Type 0
IsKnown env cond known = (flags : Flags) → value env flags cond ≡ Yes → Allows flags known

abbrev pub AreKnown : Env → List Cond → List Facts → Type 0
AreKnown env [] [] = Unit {0}
AreKnown env [] (known ∷ all) = ⊥
AreKnown env (cond ∷ conds) [] = ⊥
AreKnown env (cond ∷ conds) (known ∷ all) = IsKnown env cond known × AreKnown env conds all

-- some path holds, if the paths are known
abbrev pub OneHolds : Flags → Option (List Path) → Type 0
OneHolds flags found = IfSome found (λ paths. list_any (holds flags) paths ≡ true)

-- some path holds whenever the condition is Yes, if the paths are known
abbrev pub ArePathsOf : Env → Cond → Option (List Path) → Type 0
ArePathsOf env cond found = (flags : Flags) → value env flags cond ≡ Yes → OneHolds flags found
