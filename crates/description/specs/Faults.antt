-- The faults of a file. Each definition has the places of one cause.
use Rattle.std.specs.Prelude.{ℕ, Bool, true, false, ◌&&◌, ◌||◌, not, if◌then◌else◌, List, [], ◌∷◌, ◌++◌, map, flat_map, Option, Some, None}
use Rattle.std.specs.declared.result.Result.{Result}
use Rattle.std.specs.declared.result.Result.TheVariants.{Ok, Err}
use Rattle.plan_types.specs.declared.condition.Cond.{Cond}
use Rattle.std.specs.List.{list_all}
use Rattle.plan_types.specs.Name.{is_component_name, is_flag_name}
use Rattle.plan_types.specs.declared.description.CompKind.TheVariants as component
use Rattle.plan_types.specs.declared.refusal.Cause.{Cause}
use Rattle.plan_types.specs.declared.refusal.Cause.TheVariants as causes
use Rattle.section_syntax.specs.declared.part.File.{File}
use Rattle.section_syntax.specs.declared.part.Head.{Head}
use Rattle.section_syntax.specs.declared.part.Head.TheVariants as head
use Rattle.section_syntax.specs.declared.part.HeadField.{HeadField}
use Rattle.section_syntax.specs.declared.part.SectionPart.{SectionPart}
use Rattle.section_syntax.specs.declared.part.Said.{Said}
use Rattle.section_syntax.specs.declared.part.Said.TheVariants as said
use Rattle.section_syntax.specs.declared.part.Section.{Section}
use Rattle.section_syntax.specs.declared.part.SectionKind.{SectionKind}
use Rattle.section_syntax.specs.declared.part.SectionKind.TheVariants as kinds
use Rattle.package_declarations.specs.Declarations.{declares, is_library, is_own, is_known, has_flags, own_name}
use Rattle.stanza_imports.specs.Imports.{with_imports_replaced}
use Rattle.description.specs.declared.fault_order.At.{At}
use Rattle.description.specs.declared.faults.Class.{Class}
use Rattle.description.specs.declared.faults.Class.TheVariants.{Component, Common, Flag, Setup}
use Rattle.stanza_imports.specs.Parts.{bad_visibilities}

-- these causes at a line
abbrev pub at : ℕ → List Cause → List At
at line found = map (λ cause. record { line = line; cause = cause }) found

-- the cause if a test fails
abbrev pub unless : Bool → Cause → List Cause
unless true cause = []
unless false cause = cause ∷ []

-- the cause if there is no value
abbrev pub unless_some : {A : Type 0} → Option A → Cause → List Cause
unless_some None cause = cause ∷ []
unless_some (Some x) cause = []

-- the fault of a field beside the sections: its value is ill-formed
abbrev pub of_head : Head → List Cause
of_head (head.Name name) = unless_some name causes.BadName
of_head (head.Version version) = unless_some version causes.BadVersion
of_head (head.BuildType custom) = unless_some custom causes.BadField

-- the faults of a field beside the sections
abbrev pub in_head : HeadField → List At
in_head field = at field.line (of_head field.head)

-- whether a text is empty
abbrev pub is_empty : List ℕ → Bool
is_empty [] = true
is_empty (b ∷ bs) = false

-- whether a section's name is well-formed; the main library has none
abbrev pub has_good_name : SectionKind → List ℕ → Bool
has_good_name (kinds.Component component.Library) name = is_empty name || is_component_name name
has_good_name (kinds.Component component.Executable) name = is_component_name name
has_good_name (kinds.Component component.Test) name = is_component_name name
has_good_name (kinds.Component component.Bench) name = is_component_name name
has_good_name (kinds.Component component.Foreign) name = is_component_name name
has_good_name kinds.Common name = not (is_empty name)
has_good_name kinds.Flag name = is_flag_name name
has_good_name kinds.Setup name = true

-- faults of a section's name: it is ill-formed, or a library has the name of its package
abbrev pub of_name : Option (List ℕ) → Section → List Cause
of_name own section =
    unless (has_good_name section.kind section.name) causes.BadName ++ unless (not (is_library section.kind && is_own own section.name)) causes.DuplicateName

-- the fault of a branch's condition: it can't be read, or a flag is undeclared
abbrev pub of_condition : List Section → Result Cond Cause → List Cause
of_condition sections (Ok cond) = unless (has_flags sections cond) causes.UnknownFlag
of_condition sections (Err cause) = cause ∷ []

-- the faults of a part: its value, its place, an undeclared component of the own package, or its condition
abbrev pub of_said : File → Said → List Cause
of_said file (said.Import names fits) = unless fits causes.ImportNotFirst
of_said file (said.Depends (Ok deps)) = unless (list_all (is_known file) deps) causes.UnknownComponent
of_said file (said.Depends (Err cause)) = cause ∷ []
of_said file (said.Buildable value) = unless_some value causes.BadField
of_said file (said.Visibility value) = []
of_said file (said.Default value) = unless_some value causes.BadField
of_said file (said.Manual value) = unless_some value causes.BadField
of_said file said.BuildTools = []
of_said file (said.Branch word condition fits) = of_condition file.sections condition ++ unless fits causes.ElseWithoutIf
of_said file said.Misplaced = causes.BadField ∷ []

-- the faults of a part
abbrev pub in_part : File → SectionPart → List At
in_part file part = at part.line (of_said file part.said)

-- the faults of a section: its name and its parts
abbrev pub in_section : File → Section → List At
in_section file section = at section.line (of_name (own_name file.heads) section) ++ flat_map (in_part file) section.parts

-- the class in which a section's name must be unique
abbrev pub class_of : SectionKind → Class
class_of (kinds.Component kind) = Component
class_of kinds.Common = Common
class_of kinds.Flag = Flag
class_of kinds.Setup = Setup

-- whether a section is of a class
abbrev pub is_class : Class → SectionKind → Bool
is_class Component kind = elim (class_of kind) [ Component ↦ true | Common ↦ false | Flag ↦ false | Setup ↦ false ]
is_class Common kind = elim (class_of kind) [ Component ↦ false | Common ↦ true | Flag ↦ false | Setup ↦ false ]
is_class Flag kind = elim (class_of kind) [ Component ↦ false | Common ↦ false | Flag ↦ true | Setup ↦ false ]
is_class Setup kind = elim (class_of kind) [ Component ↦ false | Common ↦ false | Flag ↦ false | Setup ↦ true ]

-- values of sections, each computed from the sections before it
abbrev pub by_those_before : (List Section → Section → List At) → List Section → List Section → List At
by_those_before told before [] = []
by_those_before told before (section ∷ behind) = told before section ++ by_those_before told (before ++ section ∷ []) behind

-- the fault of a section of a class that repeats an earlier name
abbrev pub repeats : Class → List Section → Section → List At
repeats class before section =
    if is_class class section.kind then at section.line (unless (not (declares (is_class class) before section.name)) causes.DuplicateName) else []

-- all repeated names of a class
abbrev pub repeated : Class → List Section → List At
repeated class = by_those_before (repeats class) []

-- the fault of a well-placed import: one of its stanzas fails this test
abbrev pub unknown_by : (List ℕ → Bool) → Said → List Cause
unknown_by known (said.Import names fits) = if fits then unless (list_all known names) causes.UnknownStanza else []
unknown_by known (said.Depends deps) = []
unknown_by known (said.Buildable value) = []
unknown_by known (said.Visibility value) = []
unknown_by known (said.Default value) = []
unknown_by known (said.Manual value) = []
unknown_by known said.BuildTools = []
unknown_by known (said.Branch word condition fits) = []
unknown_by known said.Misplaced = []

-- the fault of a well-placed import: one of its stanzas isn't declared earlier
abbrev pub unknown_said : List Section → Said → List Cause
unknown_said before = unknown_by (declares (is_class Common) before)

-- unknown stanzas in the imports of a section
abbrev pub unknown_in : List Section → Section → List At
unknown_in before section = flat_map (λ part. at part.line (unknown_said before part.said)) section.parts

-- all imports of unknown stanzas
abbrev pub unknown_stanzas : List Section → List At
unknown_stanzas = by_those_before unknown_in []

-- the faults of a file, except bad visibilities
abbrev pub file_faults : File → List At
file_faults file =
    flat_map in_head file.heads
    ++ flat_map (in_section file) file.sections
    ++ repeated Component file.sections ++ repeated Common file.sections ++ repeated Flag file.sections ++ repeated Setup file.sections
    ++ unknown_stanzas file.sections

-- a bad `visibility` at this line
abbrev pub bad_visibility_at : ℕ → At
bad_visibility_at line = record { line = line; cause = causes.BadField }

-- all faults of a file; bad visibilities are found once imports are replaced
abbrev pub faults : File → List At
faults file = file_faults file ++ map bad_visibility_at (flat_map bad_visibilities (with_imports_replaced file.sections))
