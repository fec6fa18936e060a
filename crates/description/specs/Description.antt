-- The description of a file's elements, or their first fault.
use Rattle.std.specs.Prelude.{◌≡◌, ℕ, slice_get, if◌then◌else◌, List, [], ◌∷◌, flat_map, codes, Option, Some, None}
use Rattle.std.specs.declared.result.Result.{Result}
use Rattle.std.specs.declared.result.Result.TheVariants.{Ok, Err}
use Rattle.plan_types.specs.Bytes.{joined_text, same_text}
use Rattle.plan_types.specs.declared.description.Component.{Component}
use Rattle.plan_types.specs.declared.description.Description.{Description}
use Rattle.plan_types.specs.declared.description.FlagDecl.{FlagDecl}
use Rattle.plan_types.specs.declared.element.Element.{Element}
use Rattle.plan_types.specs.declared.range.Spec.{Spec}
use Rattle.plan_types.specs.declared.range.Spec.TheVariants.{V2_4, V3_0, V3_4}
use Rattle.plan_types.specs.declared.refusal.Cause.TheVariants.{MissingField, WrongCabalVersion, ComponentCycle}
use Rattle.plan_types.specs.declared.version.Version.{Version}
use Rattle.component_cycle.specs.Cycle.{IsFirstOnCycle}
use Rattle.section_syntax.specs.File.{IsFile}
use Rattle.cabal_lexer.specs.Tree.{Tree, end, field, section, tree_of}
use Rattle.section_syntax.specs.declared.part.File.{File}
use Rattle.section_syntax.specs.declared.part.Head.{Head}
use Rattle.section_syntax.specs.declared.part.Head.TheVariants as head
use Rattle.section_syntax.specs.declared.part.HeadField.{HeadField}
use Rattle.section_syntax.specs.declared.part.SectionPart.{SectionPart}
use Rattle.section_syntax.specs.declared.part.Said.{Said}
use Rattle.section_syntax.specs.declared.part.Said.TheVariants as said
use Rattle.section_syntax.specs.declared.part.Section.{Section}
use Rattle.package_declarations.specs.Components.{components}
use Rattle.package_declarations.specs.Cycles.{needs}
use Rattle.package_declarations.specs.Declarations.{own_name}
use Rattle.text_grammar.specs.Last.{last_given}
use Rattle.description.specs.Faults.{faults}
use Rattle.description.specs.FaultOrder.{first}
use Rattle.package_declarations.specs.Flags.{AreFlags}
use Rattle.package_declarations.specs.Setup.{is_custom, setup}
use Rattle.description.specs.declared.fault_order.At.{At}

-- a required field that is missing, at line 0
abbrev pub missing : At
missing = record { line = 0; cause = MissingField }

-- the format of a `cabal-version` text
abbrev pub spec_of : ℕ → List ℕ → Result Spec At
spec_of line text =
    if same_text text (codes "2.4") then Ok V2_4
    else if same_text text (codes "3.0") then Ok V3_0
    else if same_text text (codes "3.4") then Ok V3_4
    else Err (record { line = line; cause = WrongCabalVersion })

-- the cabal-version of a file, which its first element has
abbrev pub cabal_version : Tree → Result Spec At
cabal_version end = Err missing
cabal_version (field line name values behind) = if same_text name (codes "cabal-version") then spec_of line (joined_text values) else Err missing
cabal_version (section line name args items behind) = Err missing

-- the version that a field gives, if it is well-formed
abbrev pub version_said : Head → Option Version
version_said (head.Name name) = None
version_said (head.Version version) = version
version_said (head.BuildType custom) = None

-- the last well-formed version
abbrev pub version_of : List HeadField → Option Version
version_of heads = last_given (λ field. version_said field.head) heads

-- the line, if this is a `build-tools` field
abbrev pub is_build_tools : Said → List ℕ → List ℕ
is_build_tools (said.Import names fits) line = []
is_build_tools (said.Depends deps) line = []
is_build_tools (said.Buildable value) line = []
is_build_tools (said.Visibility value) line = []
is_build_tools (said.Default value) line = []
is_build_tools (said.Manual value) line = []
is_build_tools said.BuildTools line = line
is_build_tools (said.Branch word condition fits) line = []
is_build_tools said.Misplaced line = []

-- the line of a field that is accepted but not read
abbrev pub warning : SectionPart → List ℕ
warning part = is_build_tools part.said (part.line ∷ [])

-- the lines of all fields that are accepted but not read
abbrev pub warnings : List Section → List ℕ
warnings sections = flat_map (λ section. flat_map warning section.parts) sections

-- the description of a file, with these flags
abbrev pub description : File → List FlagDecl → List ℕ → List ℕ → Version → Description
description file flags digest name version = record {
  spec = file.spec;
  name = name;
  version = version;
  custom = is_custom file;
  flags = flags;
  components = components file;
  setup = setup file;
  digest = digest;
  warnings = warnings file.sections;
}

-- a description of the file: its flags are the sorted ones, the rest is fixed by the file
pub record IsDescriptionOf (file : File) (digest name : List ℕ) (version : Version) (d : Description) : Type 0 where
  pub flags : AreFlags file.sections d.flags
  pub is : d ≡ description file d.flags digest name version

-- the line of a component
abbrev pub line_of : List Component → ℕ → ℕ
line_of components n = elim (slice_get components n) [ None ↦ 0 | Some c ↦ c.line ]

-- a cycle of components is a fault at its first component
abbrev pub unless_circular : Option ℕ → Description → Result Description At
unless_circular None d = Ok d
unless_circular (Some n) d = Err (record { line = line_of d.components n; cause = ComponentCycle })

-- the outcome of a file without faults of its own
abbrev pub IsFaultlessOutcome : File → List ℕ → Option (List ℕ) → Option Version → Result Description At → Type 0
IsFaultlessOutcome file digest None version outcome = outcome ≡ Err missing
IsFaultlessOutcome file digest (Some name) None outcome = outcome ≡ Err missing
IsFaultlessOutcome file digest (Some name) (Some version) outcome =
    (d : Description) × IsDescriptionOf file digest name version d
    × (circular : Option ℕ) × IsFirstOnCycle (needs d.components) circular × (outcome ≡ unless_circular circular d)

-- The outcome of a file: its first fault, then a missing name or version, then a cycle of components.
abbrev pub IsFileOutcome : File → List ℕ → Option At → Result Description At → Type 0
IsFileOutcome file digest (Some at) outcome = outcome ≡ Err at
IsFileOutcome file digest None outcome = IsFaultlessOutcome file digest (own_name file.heads) (version_of file.heads) outcome

-- the outcome of elements in a format
abbrev pub OfVersion : Result Spec At → List Element → List ℕ → Result Description At → Type 0
OfVersion (Err at) items digest outcome = outcome ≡ Err at
OfVersion (Ok spec) items digest outcome = (file : File) × IsFile spec items file × IsFileOutcome file digest (first (faults file)) outcome

-- the elements have this outcome: a description or their first fault
abbrev pub Describes : List Element → List ℕ → Result Description At → Type 0
Describes items digest outcome = OfVersion (cabal_version (tree_of items)) items digest outcome
