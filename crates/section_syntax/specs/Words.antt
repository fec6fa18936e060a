-- Fields and sections by their names, and values that are words.
use Rattle.std.specs.Prelude.{ℕ, Bool, true, false, ◌||◌, ◌==◌, if◌then◌else◌, List, map, codes, Option, Some, None}
use Rattle.std.specs.List.{slice_split}
use Rattle.plan_types.specs.declared.description.CompKind.TheVariants as component
use Rattle.cabal_lexer.specs.Lines.{trim}
use Rattle.section_syntax.specs.declared.part.SectionKind.{SectionKind}
use Rattle.section_syntax.specs.declared.part.SectionKind.TheVariants as kinds
use Rattle.section_syntax.specs.declared.words.FieldWord.{FieldWord}
use Rattle.section_syntax.specs.declared.words.FieldWord.TheVariants as fields
use Rattle.section_syntax.specs.declared.words.BranchWord.TheVariants.{If, Elif, Else}
use Rattle.section_syntax.specs.declared.words.InnerWord.{InnerWord}
use Rattle.section_syntax.specs.declared.words.InnerWord.TheVariants as inner
use Rattle.section_syntax.specs.declared.words.HeadWord.{HeadWord}
use Rattle.plan_types.specs.Bytes.{same_text}
use Rattle.text_grammar.specs.Words.{is_word}
use Rattle.section_syntax.specs.declared.words.HeadWord.TheVariants as heads

-- fields of a component, of a common stanza, and of their branches
abbrev pub component_field : List ℕ → FieldWord
component_field name =
    if same_text name (codes "import") then fields.Import
    else if same_text name (codes "build-depends") then fields.Depends
    else if same_text name (codes "build-tool-depends") then fields.ToolDepends
    else if same_text name (codes "buildable") then fields.Buildable
    else if same_text name (codes "visibility") then fields.Visibility
    else if same_text name (codes "build-tools") then fields.BuildTools
    else fields.Unread

-- the fields of a flag
abbrev pub flag_field : List ℕ → FieldWord
flag_field name = if same_text name (codes "default") then fields.Default else if same_text name (codes "manual") then fields.Manual else fields.Unread

-- the fields of a setup section
abbrev pub setup_field : List ℕ → FieldWord
setup_field name = if same_text name (codes "setup-depends") then fields.SetupDepends else fields.Unread

-- the field of a section, by its name
abbrev pub field_word : SectionKind → List ℕ → FieldWord
field_word (kinds.Component kind) name = component_field name
field_word kinds.Common name = component_field name
field_word kinds.Flag name = flag_field name
field_word kinds.Setup name = setup_field name

-- sections in a component, a common stanza or a branch
abbrev pub component_section : List ℕ → InnerWord
component_section name =
    if same_text name (codes "if") then inner.Branch If
    else if same_text name (codes "elif") then inner.Branch Elif
    else if same_text name (codes "else") then inner.Branch Else
    else inner.Misplaced

-- the section inside a section, by its name
abbrev pub inner_word : SectionKind → List ℕ → InnerWord
inner_word (kinds.Component kind) name = component_section name
inner_word kinds.Common name = component_section name
inner_word kinds.Flag name = inner.Unread
inner_word kinds.Setup name = inner.Misplaced

-- the field beside the sections, by its name
abbrev pub head_word : List ℕ → HeadWord
head_word name =
    if same_text name (codes "name") then heads.Name
    else if same_text name (codes "version") then heads.Version
    else if same_text name (codes "build-type") then heads.BuildType
    else heads.Unread

-- the kind of a section, by its name; none if it isn't read
abbrev pub section_kind : List ℕ → Option SectionKind
section_kind name =
    if same_text name (codes "library") then Some (kinds.Component component.Library)
    else if same_text name (codes "executable") then Some (kinds.Component component.Executable)
    else if same_text name (codes "test-suite") then Some (kinds.Component component.Test)
    else if same_text name (codes "benchmark") then Some (kinds.Component component.Bench)
    else if same_text name (codes "foreign-library") then Some (kinds.Component component.Foreign)
    else if same_text name (codes "common") then Some kinds.Common
    else if same_text name (codes "flag") then Some kinds.Flag
    else if same_text name (codes "custom-setup") then Some kinds.Setup
    else None

-- whether the value is `public`; none if it is neither that nor `private`
abbrev pub visibility : List ℕ → Option Bool
visibility text = if is_word text (codes "public") then Some true else if is_word text (codes "private") then Some false else None

-- whether the value is `custom`; none if it is neither that, `simple` nor `configure`
abbrev pub build_type : List ℕ → Option Bool
build_type text =
    if is_word text (codes "custom") then Some true
    else if is_word text (codes "simple") || is_word text (codes "configure") then Some false
    else None

-- the pieces between the commas of a text, without blanks at both ends
abbrev pub between_commas : List ℕ → List (List ℕ)
between_commas text = map trim (slice_split (λ b. b == 44) text)
