-- The language of entries of a project's named ranges.
use Rattle.std.specs.Prelude.{◌≡◌, ℕ, true, List}
use Rattle.plan_types.specs.Name.{is_package_name}
use Rattle.plan_types.specs.declared.dependency.Named.{Named}
use Rattle.plan_types.specs.declared.range.Spec.TheVariants.{V3_0}
use Rattle.plan_types.specs.declared.refusal.Cause.{Cause}
use Rattle.version_range.specs.Grammar.{Stands}
use Rattle.entry_text.specs.Entries.{HasEntries, HasFirstFault}
use Rattle.entry_text.specs.Words.{name_of, behind_name}
use Rattle.constraint_text.specs.Faults.{IsBadConstraint}

-- a package and a range
pub record NamedEntry (text : List ℕ) (found : Named) : Type 0 where
  pub form : is_package_name (name_of text) ≡ true
  pub name : found.name ≡ name_of text
  pub range : Stands V3_0 64 (behind_name text) found.range

-- the named ranges of `extra-packages` and `preferences`
abbrev pub NamedRanges : List ℕ → List Named → Type 0
NamedRanges = HasEntries NamedEntry

-- the fault of such a text
abbrev pub NamedFault : List ℕ → Cause → Type 0
NamedFault = HasFirstFault NamedEntry (IsBadConstraint NamedEntry)
