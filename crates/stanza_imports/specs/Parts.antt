-- The dependencies and the visibility in single parts.
use Rattle.std.specs.Prelude.{ℕ, Bool, true, false, if◌then◌else◌, List, [], ◌∷◌, flat_map, Some, None}
use Rattle.std.specs.declared.result.Result.TheVariants.{Ok, Err}
use Rattle.plan_types.specs.declared.dependency.Dep.{Dep}
use Rattle.plan_types.specs.declared.description.CompKind.{CompKind}
use Rattle.plan_types.specs.declared.description.CompKind.TheVariants.{Library, Executable, Test, Bench, Foreign}
use Rattle.section_syntax.specs.declared.part.SectionPart.{SectionPart}
use Rattle.section_syntax.specs.declared.part.Said.{Said}
use Rattle.section_syntax.specs.declared.part.Said.TheVariants as said
use Rattle.section_syntax.specs.declared.part.Section.{Section}
use Rattle.section_syntax.specs.declared.part.SectionKind.TheVariants as kinds

-- the dependencies of a part
abbrev pub deps_said : Said → List Dep
deps_said (said.Import names fits) = []
deps_said (said.Depends (Ok deps)) = deps
deps_said (said.Depends (Err cause)) = []
deps_said (said.Buildable value) = []
deps_said (said.Visibility value) = []
deps_said (said.Default value) = []
deps_said (said.Manual value) = []
deps_said said.BuildTools = []
deps_said (said.Branch word condition fits) = []
deps_said said.Misplaced = []

-- whether a component is a library with a name of its own
abbrev pub is_named_library : CompKind → List ℕ → Bool
is_named_library Library [] = false
is_named_library Library (b ∷ name) = true
is_named_library Executable name = false
is_named_library Test name = false
is_named_library Bench name = false
is_named_library Foreign name = false

-- whether a part is a `visibility` that is neither public nor private
abbrev pub bad_visibility_said : Said → Bool
bad_visibility_said (said.Import names fits) = false
bad_visibility_said (said.Depends deps) = false
bad_visibility_said (said.Buildable value) = false
bad_visibility_said (said.Visibility None) = true
bad_visibility_said (said.Visibility (Some value)) = false
bad_visibility_said (said.Default value) = false
bad_visibility_said (said.Manual value) = false
bad_visibility_said said.BuildTools = false
bad_visibility_said (said.Branch word condition fits) = false
bad_visibility_said said.Misplaced = false

-- the line of a part that is a bad `visibility` outside of branches
abbrev pub bad_visibility : SectionPart → List ℕ
bad_visibility part = elim part.branches [ [] ↦ if bad_visibility_said part.said then part.line ∷ [] else [] | branch ∷ branches ↦ [] ]

-- whether a section is a library with a name of its own
abbrev pub is_named_library_section : Section → Bool
is_named_library_section section = elim section.kind [
  | kinds.Component kind ↦ is_named_library kind section.name
  | kinds.Common ↦ false
  | kinds.Flag ↦ false
  | kinds.Setup ↦ false
]

-- the lines of bad `visibility` fields of a library with a name of its own, those of branches left out
abbrev pub bad_visibilities : Section → List ℕ
bad_visibilities section = if is_named_library_section section then flat_map bad_visibility section.parts else []
