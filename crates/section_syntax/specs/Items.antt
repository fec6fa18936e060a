-- The parts that the elements of a section become.
use Rattle.std.specs.Prelude.{◌≡◌, ℕ, Bool, true, false, ◌&&◌, not, if◌then◌else◌, List, [], ◌∷◌, ◌++◌, Option, Some, None, is_some}
use Rattle.std.specs.declared.result.Result.{Result}
use Rattle.plan_types.specs.Bytes.{joined_text}
use Rattle.plan_types.specs.declared.condition.Cond.{Cond}
use Rattle.plan_types.specs.declared.dependency.Dep.{Dep}
use Rattle.plan_types.specs.declared.dependency.DepKind.TheVariants.{Library, Setup}
use Rattle.plan_types.specs.declared.range.Spec.{Spec}
use Rattle.plan_types.specs.Format.{is_old}
use Rattle.plan_types.specs.declared.refusal.Cause.{Cause}
use Rattle.depend_text.specs.Depends as depend
use Rattle.section_syntax.specs.Branch.{OwnCondition, condition, branch_of, chain_of}
use Rattle.cabal_lexer.specs.Tree.{Tree, end, field, section}
use Rattle.section_syntax.specs.Words.{visibility, between_commas, field_word, inner_word}
use Rattle.section_syntax.specs.declared.part.SectionPart.{SectionPart}
use Rattle.section_syntax.specs.declared.part.Said.{Said}
use Rattle.section_syntax.specs.declared.part.Said.TheVariants as said
use Rattle.section_syntax.specs.declared.part.SectionKind.{SectionKind}
use Rattle.section_syntax.specs.declared.words.BranchWord.{BranchWord}
use Rattle.section_syntax.specs.declared.words.BranchWord.TheVariants.{If, Elif, Else}
use Rattle.section_syntax.specs.declared.words.FieldWord.{FieldWord}
use Rattle.section_syntax.specs.declared.words.FieldWord.TheVariants as fields
use Rattle.section_syntax.specs.declared.words.InnerWord.{InnerWord}
use Rattle.text_grammar.specs.Words.{boolean}
use Rattle.text_grammar.specs.Outcome.{Read}
use Rattle.section_syntax.specs.declared.words.InnerWord.TheVariants as inner

-- `visibility` is read from 3.0 on
abbrev pub visible : Spec → List ℕ → Option Said
visible spec text = if is_old spec then None else Some (said.Visibility (visibility text))

-- The part that a field becomes; none if it isn't read. An import carries whether an import may come there.
abbrev pub FieldSays : Spec → FieldWord → ℕ → List ℕ → Bool → Option Said → Type 0
FieldSays spec fields.Import line text fits found = found ≡ Some (said.Import (between_commas text) fits)
FieldSays spec fields.Depends line text fits found =
    (deps : Result (List Dep) Cause) × Read (depend.Depends spec Library line text) (depend.DependsFault spec Library line text) deps × (found ≡ Some (said.Depends deps))
FieldSays spec fields.SetupDepends line text fits found =
    (deps : Result (List Dep) Cause) × Read (depend.Depends spec Setup line text) (depend.DependsFault spec Setup line text) deps × (found ≡ Some (said.Depends deps))
FieldSays spec fields.ToolDepends line text fits found =
    (deps : Result (List Dep) Cause) × Read (depend.Tools spec line text) (depend.ToolsFault spec line text) deps × (found ≡ Some (said.Depends deps))
FieldSays spec fields.Buildable line text fits found = found ≡ Some (said.Buildable (boolean text))
FieldSays spec fields.Visibility line text fits found = found ≡ visible spec text
FieldSays spec fields.Default line text fits found = found ≡ Some (said.Default (boolean text))
FieldSays spec fields.Manual line text fits found = found ≡ Some (said.Manual (boolean text))
FieldSays spec fields.BuildTools line text fits found = found ≡ Some said.BuildTools
FieldSays spec fields.Unread line text fits found = found ≡ None

-- whether a field is an import
abbrev pub is_import : FieldWord → Bool
is_import fields.Import = true
is_import fields.Depends = false
is_import fields.SetupDepends = false
is_import fields.ToolDepends = false
is_import fields.Buildable = false
is_import fields.Visibility = false
is_import fields.Default = false
is_import fields.Manual = false
is_import fields.BuildTools = false
is_import fields.Unread = false

-- the part of a field at its line and under its branches, if it is read
abbrev pub placed : ℕ → List Cond → Option Said → List SectionPart
placed line branches None = []
placed line branches (Some found) = record { line = line; branches = branches; said = found } ∷ []

-- an `if` fits anywhere, the others directly after a branch that isn't an `else`
abbrev pub branch_fits : BranchWord → Option Cond → Bool
branch_fits If chain = true
branch_fits Elif chain = is_some chain
branch_fits Else chain = is_some chain

-- imports may come in a section, and from 3.0 on in its branches
abbrev pub may_import : {A : Type 0} → Spec → List A → Bool
may_import spec [] = true
may_import spec (branch ∷ branches) = not (is_old spec)

-- all of these elements are imports
abbrev pub are_imports : SectionKind → Tree → Bool
are_imports kind end = true
are_imports kind (field line name values others) = is_import (field_word kind name) && are_imports kind others
are_imports kind (section line name args items others) = false

-- an import fits if all earlier elements of its block are imports, and imports may come in these branches
abbrev pub import_fits : Spec → SectionKind → Tree → List Cond → Bool
import_fits spec kind front branches = are_imports kind front && may_import spec branches

-- a branch, the parts inside it, and the parts after it
pub record BranchSays (spec : Spec) (word : BranchWord) (line : ℕ) (args : List ℕ) (branches : List Cond) (chain : Option Cond)
    (Within : List Cond → List SectionPart → Type 0) (Behind : Option Cond → List SectionPart → Type 0) (parts : List SectionPart) : Type 0 where
  pub own : Result Cond Cause
  pub within : List SectionPart
  pub behind : List SectionPart
  pub reads : OwnCondition spec word args own
  pub inside : Within (branches ++ condition (branch_of word chain own) ∷ []) within
  pub others : Behind (chain_of (branch_of word chain own)) behind
  pub are : parts ≡ record { line = line; branches = branches; said = said.Branch word own (branch_fits word chain) } ∷ within ++ behind

-- a section inside a section, and the parts after it
abbrev pub SectionSays : Spec → InnerWord → ℕ → List ℕ → List Cond → Option Cond → (List Cond → List SectionPart → Type 0) → (Option Cond → List SectionPart → Type 0) → List SectionPart → Type 0
SectionSays spec (inner.Branch word) line args branches chain Within Behind parts = BranchSays spec word line args branches chain Within Behind parts
SectionSays spec inner.Misplaced line args branches chain Within Behind parts =
    (behind : List SectionPart) × Behind None behind × (parts ≡ record { line = line; branches = branches; said = said.Misplaced } ∷ behind)
SectionSays spec inner.Unread line args branches chain Within Behind parts = Behind None parts

-- The parts that the elements become, under these branches. `front` has the earlier elements of the block, the nearest
-- first. `chain` is that of a branch directly before.
unfoldable pub Items : Spec → SectionKind → Tree → Tree → List Cond → Option Cond → List SectionPart → Type 0
Items spec kind front end branches chain parts = parts ≡ []
Items spec kind front (field line name values behind) branches chain parts =
    (found : Option Said) × (more : List SectionPart) × FieldSays spec (field_word kind name) line (joined_text values) (import_fits spec kind front branches) found
    × Items spec kind (field line name values front) behind branches None more × (parts ≡ placed line branches found ++ more)
Items spec kind front (section line name args items behind) branches chain parts =
    SectionSays spec (inner_word kind name) line args branches chain
    (λ within found. Items spec kind end items within None found)
    (λ left found. Items spec kind (section line name args items front) behind branches left found) parts

-- the parts of a section with these elements
abbrev pub AreParts : Spec → SectionKind → Tree → List SectionPart → Type 0
AreParts spec kind items parts = Items spec kind end items [] None parts
