-- Properties of dependencies that were read.
use Rattle.std.proofs.Common.{◌≡◌, ℕ, Bool, true, false, not, ◌&&◌, if◌then◌else◌, List, codes, Option, Some, None, refl, ap, ◌∙◌}
use Rattle.std.specs.List.{list_all}
use Rattle.std.specs.declared.result.Result.{Result}
use Rattle.std.specs.declared.result.Result.TheVariants.{Ok, Err}
use Rattle.std.proofs.lemmas.Bool.{and_from}
use Rattle.plan_types.specs.Bytes.{joined_text, same_text}
use Rattle.plan_types.specs.Name.{is_package_name}
use Rattle.plan_types.specs.declared.condition.Cond.{Cond}
use Rattle.plan_types.specs.declared.dependency.Dep.{Dep}
use Rattle.plan_types.specs.declared.dependency.DepKind.{DepKind}
use Rattle.plan_types.specs.declared.dependency.DepKind.TheVariants.{Library, Tool, Setup}
use Rattle.plan_types.specs.declared.range.Spec.{Spec}
use Rattle.plan_types.specs.Format.{is_old}
use Rattle.plan_types.specs.declared.refusal.Cause.{Cause}
use Rattle.version_range.specs.Version.{has_versions}
use Rattle.version_range.proofs.VersionForms.{stands_valid}
use Rattle.entry_text.specs.Entries.{Each, none, more}
use Rattle.depend_text.specs.Depends.{LibraryEntry, ToolEntry, Depends, DependsFault, Tools, ToolsFault}
use Rattle.section_syntax.specs.Items.{Items, FieldSays, SectionSays, import_fits, placed, visible}
use Rattle.cabal_lexer.specs.Tree.{Tree, end, field, section}
use Rattle.section_syntax.specs.Words.{visibility, component_field, field_word, inner_word}
use Rattle.section_syntax.specs.declared.part.SectionPart.{SectionPart}
use Rattle.section_syntax.specs.declared.part.Said.{Said}
use Rattle.section_syntax.specs.declared.part.Said.TheVariants as said
use Rattle.section_syntax.specs.declared.part.SectionKind.{SectionKind}
use Rattle.section_syntax.specs.declared.part.SectionKind.TheVariants as kinds
use Rattle.section_syntax.specs.declared.words.FieldWord.{FieldWord}
use Rattle.section_syntax.specs.declared.words.FieldWord.TheVariants as fields
use Rattle.section_syntax.specs.declared.words.InnerWord.{InnerWord}
use Rattle.section_syntax.specs.declared.words.InnerWord.TheVariants as inner
use Rattle.flatten.specs.Sound.{is_of_components, is_of_setup}
use Rattle.common_laws.specs.Passing.{all-append}
use Rattle.text_grammar.specs.Outcome.{Read}
use Rattle.stanza_imports.specs.Parts.{deps_said}

-- a dependency as it was read, not yet marked internal: well-formed, and of a kind that passes
abbrev pub is_read : (DepKind → Bool) → Dep → Bool
is_read kinds dep = kinds dep.kind && not dep.internal && is_package_name dep.«package» && has_versions dep.range

abbrev pub is_read_part : (DepKind → Bool) → SectionPart → Bool
is_read_part kinds part = list_all (is_read kinds) (deps_said part.said)

-- the kinds of dependencies in a section
abbrev pub kinds_in : SectionKind → DepKind → Bool
kinds_in (kinds.Component kind) = is_of_components
kinds_in kinds.Common = is_of_components
kinds_in kinds.Flag = is_of_components
kinds_in kinds.Setup = is_of_setup

-- the dependencies of a field are of such a kind
abbrev states : (DepKind → Bool) → FieldWord → Bool
states kinds fields.Import = true
states kinds fields.Depends = kinds Library
states kinds fields.SetupDepends = kinds Setup
states kinds fields.ToolDepends = kinds Tool
states kinds fields.Buildable = true
states kinds fields.Visibility = true
states kinds fields.Default = true
states kinds fields.Manual = true
states kinds fields.BuildTools = true
states kinds fields.Unread = true

either : (P : FieldWord → Type 0) (b : Bool) (x y : FieldWord) → P x → P y → P (if b then x else y)
either P true x y p q = p
either P false x y p q = q

abbrev InSection : SectionKind → FieldWord → Type 0
InSection kind word = states (kinds_in kind) word ≡ true

component-fits : (name : List ℕ) → InSection kinds.Common (component_field name)
component-fits name =
    let P = InSection kinds.Common in
    let tools = if same_text name (codes "build-tools") then fields.BuildTools else fields.Unread in
    let visibility = if same_text name (codes "visibility") then fields.Visibility else tools in
    let buildable = if same_text name (codes "buildable") then fields.Buildable else visibility in
    let tool_depends = if same_text name (codes "build-tool-depends") then fields.ToolDepends else buildable in
    let depends = if same_text name (codes "build-depends") then fields.Depends else tool_depends in
    either P (same_text name (codes "import")) fields.Import depends refl
    (either P (same_text name (codes "build-depends")) fields.Depends tool_depends refl
    (either P (same_text name (codes "build-tool-depends")) fields.ToolDepends buildable refl
    (either P (same_text name (codes "buildable")) fields.Buildable visibility refl
    (either P (same_text name (codes "visibility")) fields.Visibility tools refl
    (either P (same_text name (codes "build-tools")) fields.BuildTools fields.Unread refl refl)))))

word-fits : (kind : SectionKind) (name : List ℕ) → InSection kind (field_word kind name)
word-fits (kinds.Component kind) name = component-fits name
word-fits kinds.Common name = component-fits name
word-fits kinds.Flag name =
    let P = InSection kinds.Flag in
    let manual = if same_text name (codes "manual") then fields.Manual else fields.Unread in
    either P (same_text name (codes "default")) fields.Default manual refl (either P (same_text name (codes "manual")) fields.Manual fields.Unread refl refl)
word-fits kinds.Setup name = either (InSection kinds.Setup) (same_text name (codes "setup-depends")) fields.SetupDepends fields.Unread refl refl

module _ (kinds : DepKind → Bool) where
  read-is : (dep : Dep) → kinds dep.kind ≡ true → dep.internal ≡ false → is_package_name dep.«package» ≡ true → has_versions dep.range ≡ true → is_read kinds dep ≡ true
  read-is dep kind internal name range =
      and_from (kinds dep.kind && not dep.internal && is_package_name dep.«package») (has_versions dep.range)
      (and_from (kinds dep.kind && not dep.internal) (is_package_name dep.«package») (and_from (kinds dep.kind) (not dep.internal) kind (ap not internal)) name) range

  library-read : (spec : Spec) (kind : DepKind) (line : ℕ) → kinds kind ≡ true → (text : List ℕ) (dep : Dep) → LibraryEntry spec kind line text dep → is_read kinds dep ≡ true
  library-read spec kind line of_kind text dep entry =
      read-is dep (ap (λ d. kinds d.kind) entry.is ∙ of_kind) (ap (λ d. d.internal) entry.is) (ap (λ d. is_package_name d.«package») entry.is ∙ entry.name)
      (ap (λ d. has_versions d.range) entry.is ∙ stands_valid spec 64 entry.range_text entry.range entry.versions)

  tool-read : (spec : Spec) (line : ℕ) → kinds Tool ≡ true → (text : List ℕ) (dep : Dep) → ToolEntry spec line text dep → is_read kinds dep ≡ true
  tool-read spec line of_kind text dep entry =
      read-is dep (ap (λ d. kinds d.kind) entry.is ∙ of_kind) (ap (λ d. d.internal) entry.is) (ap (λ d. is_package_name d.«package») entry.is ∙ entry.name)
      (ap (λ d. has_versions d.range) entry.is ∙ stands_valid spec 64 entry.range_text entry.range entry.versions)

  each-read : (Entry : List ℕ → Dep → Type 0) → ((text : List ℕ) (dep : Dep) → Entry text dep → is_read kinds dep ≡ true)
      → (pieces : List (List ℕ)) (deps : List Dep) → Each Entry pieces deps → list_all (is_read kinds) deps ≡ true
  each-read Entry one pieces deps none = refl
  each-read Entry one pieces deps (more {part = part} {x = dep} {parts = parts} {xs = others} here rest) =
      and_from (is_read kinds dep) (list_all (is_read kinds) others) (one part dep here) (each-read Entry one parts others rest)

  -- the dependencies of one field
  depends-read : (Stands : List Dep → Type 0) (Fails : Cause → Type 0) → ((deps : List Dep) → Stands deps → list_all (is_read kinds) deps ≡ true)
      → (found : Result (List Dep) Cause) → Read Stands Fails found → list_all (is_read kinds) (deps_said (said.Depends found)) ≡ true
  depends-read Stands Fails one (Ok deps) is = one deps is
  depends-read Stands Fails one (Err cause) is = refl

  one-placed : (line : ℕ) (branches : List Cond) (found : Said) → list_all (is_read kinds) (deps_said found) ≡ true → list_all (is_read_part kinds) (placed line branches (Some found)) ≡ true
  one-placed line branches found read = and_from (list_all (is_read kinds) (deps_said found)) true read refl

  visible-read : (spec : Spec) (line : ℕ) (branches : List Cond) (text : List ℕ) → list_all (is_read_part kinds) (placed line branches (visible spec text)) ≡ true
  visible-read spec line branches text = by (is_old spec)
    where
      by : (old : Bool) → list_all (is_read_part kinds) (placed line branches (if old then None else Some (said.Visibility (visibility text)))) ≡ true
      by true = refl
      by false = refl

  field-read : (spec : Spec) (word : FieldWord) (line : ℕ) (branches : List Cond) (text : List ℕ) (fits : Bool) (found : Option Said) → states kinds word ≡ true
      → FieldSays spec word line text fits found → list_all (is_read_part kinds) (placed line branches found) ≡ true
  field-read spec fields.Import line branches text fits found of_kind says = rw says refl
  field-read spec fields.Depends line branches text fits found of_kind says =
      rw says.2 (one-placed line branches (said.Depends says.0) (depends-read (Depends spec Library line text) (DependsFault spec Library line text)
      (λ deps is. each-read (LibraryEntry spec Library line) (library-read spec Library line of_kind) _ deps is.each) says.0 says.1))
  field-read spec fields.SetupDepends line branches text fits found of_kind says =
      rw says.2 (one-placed line branches (said.Depends says.0) (depends-read (Depends spec Setup line text) (DependsFault spec Setup line text)
      (λ deps is. each-read (LibraryEntry spec Setup line) (library-read spec Setup line of_kind) _ deps is.each) says.0 says.1))
  field-read spec fields.ToolDepends line branches text fits found of_kind says =
      rw says.2 (one-placed line branches (said.Depends says.0) (depends-read (Tools spec line text) (ToolsFault spec line text)
      (λ deps is. each-read (ToolEntry spec line) (tool-read spec line of_kind) _ deps is.each) says.0 says.1))
  field-read spec fields.Buildable line branches text fits found of_kind says = rw says refl
  field-read spec fields.Visibility line branches text fits found of_kind says = rw says (visible-read spec line branches text)
  field-read spec fields.Default line branches text fits found of_kind says = rw says refl
  field-read spec fields.Manual line branches text fits found of_kind says = rw says refl
  field-read spec fields.BuildTools line branches text fits found of_kind says = rw says refl
  field-read spec fields.Unread line branches text fits found of_kind says = rw says refl

  section-read : (spec : Spec) (word : InnerWord) (line : ℕ) (args : List ℕ) (branches : List Cond) (chain : Option Cond) (Within : List Cond → List SectionPart → Type 0) (Behind : Option Cond → List SectionPart → Type 0)
      → ((inside : List Cond) (parts : List SectionPart) → Within inside parts → list_all (is_read_part kinds) parts ≡ true)
      → ((left : Option Cond) (parts : List SectionPart) → Behind left parts → list_all (is_read_part kinds) parts ≡ true)
      → (parts : List SectionPart) → SectionSays spec word line args branches chain Within Behind parts → list_all (is_read_part kinds) parts ≡ true
  section-read spec (inner.Branch word) line args branches chain Within Behind within behind parts says =
      rw says.are (all-append (is_read_part kinds) says.within says.behind (within _ says.within says.inside) (behind _ says.behind says.others))
  section-read spec inner.Misplaced line args branches chain Within Behind within behind parts says = rw says.2 (behind None says.0 says.1)
  section-read spec inner.Unread line args branches chain Within Behind within behind parts says = behind None parts says

pub items-read : (spec : Spec) (kind : SectionKind) (front tree : Tree) (branches : List Cond) (chain : Option Cond) (parts : List SectionPart)
    → Items spec kind front tree branches chain parts → list_all (is_read_part (kinds_in kind)) parts ≡ true
unfolding Items
items-read spec kind front end branches chain parts says = rw says refl
items-read spec kind front (field line name values behind) branches chain parts says =
    rw says.4 (all-append (is_read_part (kinds_in kind)) (placed line branches says.0) says.1
    (field-read (kinds_in kind) spec (field_word kind name) line branches (joined_text values) (import_fits spec kind front branches) says.0 (word-fits kind name) says.2)
    (items-read spec kind (field line name values front) behind branches None says.1 says.3))
items-read spec kind front (section line name args items behind) branches chain parts says =
    section-read (kinds_in kind) spec (inner_word kind name) line args branches chain
    (λ within found. Items spec kind end items within None found) (λ left found. Items spec kind (section line name args items front) behind branches left found)
    (λ within found is. items-read spec kind end items within None found is) (λ left found is. items-read spec kind (section line name args items front) behind branches left found is) parts says
