-- The elements of a file have a reading, section by section.
use Rattle.std.proofs.Common.{ℕ, Bool, List, [], ◌∷◌, ◌++◌, Option, Some, None, Result, refl}
use Rattle.plan_types.specs.Bytes.{joined_text}
use Rattle.plan_types.specs.declared.condition.Cond.{Cond}
use Rattle.plan_types.specs.declared.dependency.DepKind.TheVariants.{Library, Setup}
use Rattle.plan_types.specs.declared.element.Element.{Element}
use Rattle.plan_types.specs.declared.range.Spec.{Spec}
use Rattle.plan_types.specs.declared.refusal.Cause.{Cause}
use Rattle.text_grammar.specs.Words.{boolean, package_name}
use Rattle.cabal_lexer.specs.Tree.{Tree, end, field, section, tree_of}
use Rattle.section_syntax.specs.Branch.{OwnCondition, bare, branch_of, chain_of, condition}
use Rattle.section_syntax.specs.File.{HeadSays, IsFile, Says, SectionIs, headed, section_name}
use Rattle.section_syntax.specs.Items.{FieldSays, Items, SectionSays, branch_fits, import_fits, placed, visible}
use Rattle.section_syntax.specs.Words.{between_commas, build_type, field_word, head_word, inner_word, section_kind}
use Rattle.section_syntax.specs.declared.part.File.{File}
use Rattle.section_syntax.specs.declared.part.Head.{Head}
use Rattle.section_syntax.specs.declared.part.Head.TheVariants as head
use Rattle.section_syntax.specs.declared.part.HeadField.{HeadField}
use Rattle.section_syntax.specs.declared.part.Said.{Said}
use Rattle.section_syntax.specs.declared.part.Said.TheVariants as said
use Rattle.section_syntax.specs.declared.part.Section.{Section}
use Rattle.section_syntax.specs.declared.part.SectionKind.{SectionKind}
use Rattle.section_syntax.specs.declared.part.SectionPart.{SectionPart}
use Rattle.section_syntax.specs.declared.words.BranchWord.{BranchWord}
use Rattle.section_syntax.specs.declared.words.BranchWord.TheVariants.{If, Elif, Else}
use Rattle.section_syntax.specs.declared.words.FieldWord.{FieldWord}
use Rattle.section_syntax.specs.declared.words.FieldWord.TheVariants as fields
use Rattle.section_syntax.specs.declared.words.HeadWord.{HeadWord}
use Rattle.section_syntax.specs.declared.words.HeadWord.TheVariants as words
use Rattle.section_syntax.specs.declared.words.InnerWord.{InnerWord}
use Rattle.section_syntax.specs.declared.words.InnerWord.TheVariants as inner
use Rattle.every_reading.proofs.LoopReadings.{version_or_none}
use Rattle.every_reading.proofs.Readings.{condition_read, depends_read, tools_read}

module _ (spec : Spec) where
  -- ---- a field and a branch

  field_says : (word : FieldWord) (line : ℕ) (text : List ℕ) (fits : Bool) → (found : Option Said) × FieldSays spec word line text fits found
  field_says fields.Import line text fits = (Some (said.Import (between_commas text) fits), refl)
  field_says fields.Depends line text fits = let deps = depends_read spec Library line text in (Some (said.Depends deps.0), (deps.0, deps.1, refl))
  field_says fields.SetupDepends line text fits = let deps = depends_read spec Setup line text in (Some (said.Depends deps.0), (deps.0, deps.1, refl))
  field_says fields.ToolDepends line text fits = let deps = tools_read spec line text in (Some (said.Depends deps.0), (deps.0, deps.1, refl))
  field_says fields.Buildable line text fits = (Some (said.Buildable (boolean text)), refl)
  field_says fields.Visibility line text fits = (visible spec text, refl)
  field_says fields.Default line text fits = (Some (said.Default (boolean text)), refl)
  field_says fields.Manual line text fits = (Some (said.Manual (boolean text)), refl)
  field_says fields.BuildTools line text fits = (Some said.BuildTools, refl)
  field_says fields.Unread line text fits = (None, refl)

  own_condition : (word : BranchWord) (args : List ℕ) → (own : Result Cond Cause) × OwnCondition spec word args own
  own_condition If args = condition_read spec args
  own_condition Elif args = condition_read spec args
  own_condition Else args = (bare args, refl)

  section_says : (word : InnerWord) (line : ℕ) (args : List ℕ) (branches : List Cond) (chain : Option Cond)
      (Within : List Cond → List SectionPart → Type 0) (Behind : Option Cond → List SectionPart → Type 0)
      → ((within : List Cond) → (found : List SectionPart) × Within within found) → ((left : Option Cond) → (found : List SectionPart) × Behind left found)
      → (parts : List SectionPart) × SectionSays spec word line args branches chain Within Behind parts
  section_says (inner.Branch word) line args branches chain Within Behind within behind =
      let own = own_condition word args in
      let inside = within (branches ++ condition (branch_of word chain own.0) ∷ []) in
      let others = behind (chain_of (branch_of word chain own.0)) in (
        record { line = line; branches = branches; said = said.Branch word own.0 (branch_fits word chain) } ∷ inside.0 ++ others.0,
        record { own = own.0; within = inside.0; behind = others.0; reads = own.1; inside = inside.1; others = others.1; are = refl },
      )
  section_says inner.Misplaced line args branches chain Within Behind within behind =
      let others = behind None in
      (record { line = line; branches = branches; said = said.Misplaced } ∷ others.0, (others.0, others.1, refl))
  section_says inner.Unread line args branches chain Within Behind within behind = behind None

  -- ---- the parts of a section

  abbrev HasParts : SectionKind → Tree → Tree → List Cond → Option Cond → Type 0
  HasParts kind front items branches chain = (parts : List SectionPart) × Items spec kind front items branches chain parts

  module _ (kind : SectionKind) where
    at_end : (front : Tree) (branches : List Cond) (chain : Option Cond) → HasParts kind front end branches chain
    unfolding Items
    at_end front branches chain = ([], refl)

    at_field : (line : ℕ) (name : List ℕ) (values : List (List ℕ)) (front behind : Tree) (branches : List Cond) (chain : Option Cond)
        → HasParts kind (field line name values front) behind branches None → HasParts kind front (field line name values behind) branches chain
    unfolding Items
    at_field line name values front behind branches chain more =
        let found = field_says (field_word kind name) line (joined_text values) (import_fits spec kind front branches) in
        (placed line branches found.0 ++ more.0, (found.0, more.0, found.1, more.1, refl))

    at_section : (line : ℕ) (name args : List ℕ) (items front behind : Tree) (branches : List Cond) (chain : Option Cond)
        → ((within : List Cond) → HasParts kind end items within None)
        → ((left : Option Cond) → HasParts kind (section line name args items front) behind branches left) → HasParts kind front (section line name args items behind) branches chain
    unfolding Items
    at_section line name args items front behind branches chain within more =
        section_says (inner_word kind name) line args branches chain
        (λ within found. Items spec kind end items within None found)
        (λ left found. Items spec kind (section line name args items front) behind branches left found) within more

    parts_of : (items front : Tree) (branches : List Cond) (chain : Option Cond) → HasParts kind front items branches chain
    parts_of end front branches chain = at_end front branches chain
    parts_of (field line name values behind) front branches chain =
        at_field line name values front behind branches chain (parts_of behind (field line name values front) branches None)
    parts_of (section line name args items behind) front branches chain =
        at_section line name args items front behind branches chain (λ within. parts_of items end within None)
        (λ left. parts_of behind (section line name args items front) branches left)

  -- ---- a file

  head_says : (word : HeadWord) (text : List ℕ) → (found : Option Head) × HeadSays word text found
  head_says words.Name text = (Some (head.Name (package_name text)), refl)
  head_says words.Version text = let version = version_or_none text in (Some (head.Version version.0), (version.0, version.1, refl))
  head_says words.BuildType text = (Some (head.BuildType (build_type text)), refl)
  head_says words.Unread text = (None, refl)

  section_is : (kind : Option SectionKind) (line : ℕ) (args : List ℕ) (items : Tree) (Behind : List Section → Type 0) (more : List Section) → Behind more
      → (sections : List Section) × SectionIs spec kind line args items Behind sections
  section_is None line args items Behind more is = (more, is)
  section_is (Some kind) line args items Behind more is =
      let parts = parts_of kind items end [] None in
      (record { line = line; kind = kind; name = section_name kind args; parts = parts.0 } ∷ more, (parts.0, more, parts.1, is, refl))

  abbrev SaysSome : Tree → Type 0
  SaysSome items = (heads : List HeadField) × (sections : List Section) × Says spec items heads sections

  says_at_end : SaysSome end
  unfolding Says
  says_at_end = ([], [], (refl, refl))

  says_at_field : (line : ℕ) (name : List ℕ) (values : List (List ℕ)) (behind : Tree) → SaysSome behind → SaysSome (field line name values behind)
  unfolding Says
  says_at_field line name values behind more =
      let found = head_says (head_word name) (joined_text values) in
      (headed line found.0 ++ more.0, more.1, (found.0, more.0, found.1, more.2, refl))

  says_at_section : (line : ℕ) (name args : List ℕ) (items behind : Tree) → SaysSome behind → SaysSome (section line name args items behind)
  unfolding Says
  says_at_section line name args items behind more =
      let sections = section_is (section_kind name) line args items (λ said. Says spec behind more.0 said) more.1 more.2 in
      (more.0, sections.0, sections.1)

  says_of : (items : Tree) → SaysSome items
  says_of end = says_at_end
  says_of (field line name values behind) = says_at_field line name values behind (says_of behind)
  says_of (section line name args items behind) = says_at_section line name args items behind (says_of behind)

  pub some_file : (items : List Element) → (file : File) × IsFile spec items file
  some_file items = let says = says_of (tree_of items) in (record { spec = spec; heads = says.0; sections = says.1 }, (refl, says.2))
