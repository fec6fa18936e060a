-- The parts of fields beside the sections.
use Rattle.std.specs.Prelude.{◌≡◌, ℕ, Bool, true, false, List, Option, Some, None}
use Rattle.std.specs.declared.result.Result.{Result}
use Rattle.std.specs.declared.result.Result.TheVariants.{Ok, Err}
use Rattle.plan_types.specs.declared.refusal.Cause.{Cause}
use Rattle.plan_types.specs.declared.refusal.Cause.TheVariants.{BadField, Unsupported}
use Rattle.constraint_text.specs.Constraints.{Constraints, ConstraintsFault}
use Rattle.constraint_text.specs.Named.{NamedRanges, NamedFault}
use Rattle.constraint_text.specs.Relaxes.{Relaxes, RelaxFault}
use Rattle.project_file.specs.declared.part.ProjectSaid.{ProjectSaid}
use Rattle.project_file.specs.declared.part.ProjectSaid.TheVariants as said
use Rattle.project_file.specs.declared.part.Switch.{Switch}
use Rattle.text_grammar.specs.declared.word.Between.TheVariants.{SpacesAndCommas}
use Rattle.project_file.specs.declared.words.FieldKind.{FieldKind}
use Rattle.project_file.specs.declared.words.FieldKind.TheVariants as kinds
use Rattle.project_file.specs.declared.words.ProjectFieldWord.{ProjectFieldWord}
use Rattle.text_grammar.specs.Words.{words, boolean}
use Rattle.text_grammar.specs.Outcome.{Read}
use Rattle.version_range.specs.Number.{limit_of}
use Rattle.project_file.specs.declared.words.ProjectFieldWord.TheVariants as fields

-- the part with this value, or with the cause of its fault
abbrev pub said_of : {A : Type 0} → (A → ProjectSaid) → Result A Cause → ProjectSaid
said_of as' (Ok found) = as' found
said_of as' (Err cause) = said.Bad cause

-- the part with the value of a text, or with its first fault
abbrev pub IsRead : {A : Type 0} → (A → ProjectSaid) → (A → Type 0) → (Cause → Type 0) → ProjectSaid → Type 0
IsRead {A = A} as' Stands Fails found = (read : Result A Cause) × Read Stands Fails read × (found ≡ said_of as' read)

-- the part with this value, or a fault if the value is ill-formed
abbrev pub or_bad : {A : Type 0} → (A → ProjectSaid) → Option A → ProjectSaid
or_bad as' None = said.Bad BadField
or_bad as' (Some value) = as' value

-- the part of a switch
abbrev pub switch_said : Switch → Option Bool → ProjectSaid
switch_said which value = or_bad (said.Switch which) value

-- the part of a field of this kind with this text
abbrev pub KindSays : FieldKind → List ℕ → ProjectSaid → Type 0
KindSays kinds.Packages text found = found ≡ said.Entries (words SpacesAndCommas text) false
KindSays kinds.OptionalPackages text found = found ≡ said.Entries (words SpacesAndCommas text) true
KindSays kinds.Extra text found = IsRead said.Extra (NamedRanges text) (NamedFault text) found
KindSays kinds.Constraints text found = IsRead said.Constraints (Constraints text) (ConstraintsFault text) found
KindSays kinds.Preferences text found = IsRead said.Preferences (NamedRanges text) (NamedFault text) found
KindSays kinds.Newer text found = IsRead said.Newer (Relaxes text) (RelaxFault text) found
KindSays kinds.Older text found = IsRead said.Older (Relaxes text) (RelaxFault text) found
KindSays (kinds.Switch which) text found = found ≡ switch_said which (boolean text)
KindSays kinds.Limit text found = found ≡ or_bad said.Limit (limit_of text)

-- The part of a field; none for an unknown one. A field that is only warned of has its name.
abbrev pub FieldSays : ProjectFieldWord → List ℕ → List ℕ → Option ProjectSaid → Type 0
FieldSays (fields.Read kind) name text found = (said : ProjectSaid) × KindSays kind text said × (found ≡ Some said)
FieldSays fields.Warned name text found = found ≡ Some (said.Warning name)
FieldSays fields.Unsupported name text found = found ≡ Some (said.Bad Unsupported)
FieldSays fields.Unread name text found = found ≡ None
