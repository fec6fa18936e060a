-- The fields beside the sections, and the sections of a file.
use Rattle.std.specs.Prelude.{◌≡◌, ℕ, List, [], ◌∷◌, ◌++◌, map, Option, Some, None}
use Rattle.std.specs.Char.{to_ascii_lowercase}
use Rattle.plan_types.specs.Bytes.{joined_text}
use Rattle.text_grammar.specs.Words.{package_name}
use Rattle.plan_types.specs.declared.element.Element.{Element}
use Rattle.plan_types.specs.declared.range.Spec.{Spec}
use Rattle.plan_types.specs.declared.version.Version.{Version}
use Rattle.version_range.specs.Version.{IsVersionOf}
use Rattle.section_syntax.specs.Items.{AreParts}
use Rattle.cabal_lexer.specs.Tree.{Tree, end, field, section, tree_of}
use Rattle.section_syntax.specs.Words.{build_type, head_word, section_kind}
use Rattle.section_syntax.specs.declared.part.File.{File}
use Rattle.section_syntax.specs.declared.part.Head.{Head}
use Rattle.section_syntax.specs.declared.part.Head.TheVariants as head
use Rattle.section_syntax.specs.declared.part.HeadField.{HeadField}
use Rattle.section_syntax.specs.declared.part.SectionPart.{SectionPart}
use Rattle.section_syntax.specs.declared.part.Section.{Section}
use Rattle.section_syntax.specs.declared.part.SectionKind.{SectionKind}
use Rattle.section_syntax.specs.declared.part.SectionKind.TheVariants as kinds
use Rattle.section_syntax.specs.declared.words.HeadWord.{HeadWord}
use Rattle.section_syntax.specs.declared.words.HeadWord.TheVariants as words

-- the content of a field beside the sections; none if the field isn't read
abbrev pub HeadSays : HeadWord → List ℕ → Option Head → Type 0
HeadSays words.Name text found = found ≡ Some (head.Name (package_name text))
HeadSays words.Version text found = (version : Option Version) × IsVersionOf text version × (found ≡ Some (head.Version version))
HeadSays words.BuildType text found = found ≡ Some (head.BuildType (build_type text))
HeadSays words.Unread text found = found ≡ None

-- a field beside the sections with its line, if it is read
abbrev pub headed : ℕ → Option Head → List HeadField
headed line None = []
headed line (Some found) = record { line = line; head = found } ∷ []

-- the name of a section: a flag's in lower case, a setup's empty
abbrev pub section_name : SectionKind → List ℕ → List ℕ
section_name (kinds.Component kind) args = args
section_name kinds.Common args = args
section_name kinds.Flag args = map to_ascii_lowercase args
section_name kinds.Setup args = []

-- the section, if it is read, followed by those after it
abbrev pub SectionIs : Spec → Option SectionKind → ℕ → List ℕ → Tree → (List Section → Type 0) → List Section → Type 0
SectionIs spec None line args items Behind sections = Behind sections
SectionIs spec (Some kind) line args items Behind sections =
    (parts : List SectionPart) × (more : List Section) × AreParts spec kind items parts × Behind more
    × (sections ≡ record { line = line; kind = kind; name = section_name kind args; parts = parts } ∷ more)

-- the fields and sections that the elements of a file become
unfoldable pub Says : Spec → Tree → List HeadField → List Section → Type 0
Says spec end heads sections = (heads ≡ []) × (sections ≡ [])
Says spec (field line name values behind) heads sections =
    (found : Option Head) × (more : List HeadField) × HeadSays (head_word name) (joined_text values) found
    × Says spec behind more sections × (heads ≡ headed line found ++ more)
Says spec (section line name args items behind) heads sections =
    SectionIs spec (section_kind name) line args items (λ more. Says spec behind heads more) sections

-- the reading of a file's elements in a cabal-version
abbrev pub IsFile : Spec → List Element → File → Type 0
IsFile spec items file = (file.spec ≡ spec) × Says spec (tree_of items) file.heads file.sections
