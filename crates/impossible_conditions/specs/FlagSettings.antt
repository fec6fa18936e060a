-- Settings that flags have whenever a condition is Yes.
use Rattle.std.specs.Prelude.{◌≡◌, ℕ, Bool, true, List, [], ◌∷◌, Some}
use Rattle.std.specs.BTreeMap.{BTreeMap}
use Rattle.std.specs.List.{AllByRecursion}
use Rattle.conditionals.specs.Paths.{holds}
use Rattle.conditionals.specs.Value.{Flags}
use Rattle.impossible_conditions.specs.declared.flag_settings.FlagSettings.{FlagSettings}

-- flags have these settings
abbrev pub AreEntries : Flags → List (List ℕ × Bool) → Type 0
AreEntries flags = AllByRecursion (λ entry. flags entry.0 ≡ Some entry.1)

-- flags have the settings of a map
abbrev pub HasEntries : Flags → BTreeMap (List ℕ) Bool → Type 0
HasEntries flags said = AreEntries flags said.entries

abbrev pub HaveEntries : Flags → List (BTreeMap (List ℕ) Bool) → Type 0
HaveEntries flags [] = Unit {0}
HaveEntries flags (said ∷ maps) = HasEntries flags said × HaveEntries flags maps

-- flags have these settings
pub record AreSet (flags : Flags) (required : FlagSettings) : Type 0 where
  pub shared : HaveEntries flags required.shared
  pub recent : holds flags required.recent ≡ true
