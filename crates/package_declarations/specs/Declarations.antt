-- The names that a package declares, and the meaning of its dependencies and conditions.
use Rattle.std.specs.Prelude.{ℕ, Bool, true, false, ◌&&◌, if◌then◌else◌, List, [], ◌∷◌, Option, Some, None}
use Rattle.std.specs.List.{list_all, list_any}
use Rattle.plan_types.specs.Format.{has_bare_libraries}
use Rattle.plan_types.specs.declared.condition.Cond.{Cond}
use Rattle.plan_types.specs.declared.condition.Cond.TheOpen.{Cond-F, Always, Never, Flag, Os, Arch, Impl, Not, And, Or}
use Rattle.plan_types.specs.declared.condition.Cond.TheFolds.{fold-Cond}
use Rattle.plan_types.specs.declared.dependency.Dep.{Dep}
use Rattle.plan_types.specs.declared.dependency.DepKind.{DepKind}
use Rattle.plan_types.specs.declared.dependency.DepKind.TheVariants.{Library, Tool, Setup}
use Rattle.plan_types.specs.declared.dependency.LibName.{LibName}
use Rattle.plan_types.specs.declared.dependency.LibName.TheVariants as lib
use Rattle.plan_types.specs.declared.description.CompKind.TheVariants as component
use Rattle.plan_types.specs.declared.range.Spec.{Spec}
use Rattle.section_syntax.specs.declared.part.File.{File}
use Rattle.section_syntax.specs.declared.part.Head.{Head}
use Rattle.section_syntax.specs.declared.part.Head.TheVariants as head
use Rattle.section_syntax.specs.declared.part.HeadField.{HeadField}
use Rattle.section_syntax.specs.declared.part.Section.{Section}
use Rattle.section_syntax.specs.declared.part.SectionKind.{SectionKind}
use Rattle.section_syntax.specs.declared.part.SectionKind.TheVariants as kinds
use Rattle.package_declarations.specs.declared.declarations.Meaning.{Meaning}
use Rattle.package_declarations.specs.declared.declarations.Meaning.TheVariants.{Other, Own, OwnLibrary}
use Rattle.plan_types.specs.Bytes.{same_text}
use Rattle.text_grammar.specs.Last.{last_given}
use Rattle.plan_types.specs.Packages.{library_name, is_library as is_library_kind, is_main}

-- whether a section is a library
abbrev pub is_library : SectionKind → Bool
is_library (kinds.Component kind) = is_library_kind kind
is_library kinds.Common = false
is_library kinds.Flag = false
is_library kinds.Setup = false

-- whether a section is an executable
abbrev pub is_executable : SectionKind → Bool
is_executable (kinds.Component component.Library) = false
is_executable (kinds.Component component.Executable) = true
is_executable (kinds.Component component.Test) = false
is_executable (kinds.Component component.Bench) = false
is_executable (kinds.Component component.Foreign) = false
is_executable kinds.Common = false
is_executable kinds.Flag = false
is_executable kinds.Setup = false

-- whether a section is a flag
abbrev pub is_flag : SectionKind → Bool
is_flag (kinds.Component kind) = false
is_flag kinds.Common = false
is_flag kinds.Flag = true
is_flag kinds.Setup = false

-- whether a section of such a kind has this name
abbrev pub declares : (SectionKind → Bool) → List Section → List ℕ → Bool
declares of_kind sections name = list_any (λ s. of_kind s.kind && same_text name s.name) sections

-- the package name that a field gives, none in it if that is ill-formed; nothing for another field
abbrev pub name_said : Head → Option (Option (List ℕ))
name_said (head.Name name) = Some name
name_said (head.Version version) = None
name_said (head.BuildType custom) = None

-- the list with the value, if there is one
abbrev pub as_list : {A : Type 0} → Option A → List A
as_list None = []
as_list (Some x) = x ∷ []

-- an optional value flattened
abbrev pub joined : {A : Type 0} → Option (Option A) → Option A
joined None = None
joined (Some x) = x

-- the name in the last `name` field, none if it is ill-formed
abbrev pub own_name : List HeadField → Option (List ℕ)
own_name heads = joined (last_given (λ field. name_said field.head) heads)

-- the name after one more field
abbrev pub name_behind : Option (List ℕ) → Head → Option (List ℕ)
name_behind before (head.Name name) = name
name_behind before (head.Version version) = before
name_behind before (head.BuildType custom) = before

-- whether this is the name of the package
abbrev pub is_own : Option (List ℕ) → List ℕ → Bool
is_own None name = false
is_own (Some own) name = same_text own name

-- whether the package name may be that of an own library: before 3.4, and if no named library is listed
abbrev pub is_bare : Spec → List LibName → Bool
is_bare spec libs = has_bare_libraries spec && list_all is_main libs

-- the meaning of a dependency, by whether it is on the own package and whether it names an own library as a package
abbrev pub meaning_by : DepKind → Bool → Bool → Meaning
meaning_by Library own library = if own then Own else if library then OwnLibrary else Other
meaning_by Tool own library = if own then Own else Other
meaning_by Setup own library = Other

-- the meaning of a dependency in its package
abbrev pub meaning : File → Dep → Meaning
meaning file dep =
    meaning_by dep.kind (is_own (own_name file.heads) dep.«package») (is_bare file.spec dep.libs && declares is_library file.sections dep.«package»)

-- a dependency with this meaning resolved
abbrev pub meant_as : Meaning → Option (List ℕ) → Dep → Dep
meant_as Other own dep = dep
meant_as Own own dep = record dep { internal = true }
meant_as OwnLibrary None dep = dep
meant_as OwnLibrary (Some own) dep = record dep { «package» = own; libs = lib.Named dep.«package» ∷ []; internal = true }

-- a dependency with its meaning resolved
abbrev pub meant : File → Dep → Dep
meant file dep = meant_as (meaning file dep) (own_name file.heads) dep

-- whether the own components that are meant are declared: the libraries or the executable
abbrev pub known_by : Meaning → DepKind → Bool → Bool → Bool
known_by Other kind libraries executable = true
known_by OwnLibrary kind libraries executable = true
known_by Own Library libraries executable = libraries
known_by Own Tool libraries executable = executable
known_by Own Setup libraries executable = true

-- whether all own components that a dependency names are declared
abbrev pub is_known : File → Dep → Bool
is_known file dep =
    known_by (meaning file dep) dep.kind (list_all (λ l. declares is_library file.sections (library_name l)) dep.libs)
    (declares is_executable file.sections dep.exe)

-- whether each flag of a condition passes the test, one layer
abbrev pub flags_step : (List ℕ → Bool) → Cond-F Bool → Bool
flags_step known Always = true
flags_step known Never = true
flags_step known (Flag name) = known name
flags_step known (Os name) = true
flags_step known (Arch name) = true
flags_step known (Impl name range) = true
flags_step known (Not inner) = inner
flags_step known (And left right) = left && right
flags_step known (Or left right) = left && right

-- whether each flag of a condition is declared
abbrev pub has_flags : List Section → Cond → Bool
has_flags sections = fold-Cond Bool (flags_step (declares is_flag sections))
