-- A table of the numbers of components, by their names.
use Rattle.std.specs.Prelude.{◌≡◌, ℕ, if◌then◌else◌, List, [], length, flat_map, position, slice_get, Option, Some, None}
use Rattle.plan_types.specs.declared.dependency.Dep.{Dep}
use Rattle.plan_types.specs.declared.dependency.DepKind.TheVariants.{Library, Tool, Setup}
use Rattle.plan_types.specs.declared.description.Component.{Component}
use Rattle.package_declarations.specs.Declarations.{as_list}
use Rattle.stanza_imports.specs.Names.{number_of}
use Rattle.package_declarations.specs.declared.cycle.Numbers.{Numbers}
use Rattle.plan_types.specs.Bytes.{same_text}
use Rattle.plan_types.specs.Packages.{library_name}

-- the number beside a name
abbrev pub number_beside : List (List ℕ) → List ℕ → List ℕ → Option ℕ
number_beside names numbers name = elim (number_of names name) [ None ↦ None | Some place ↦ slice_get numbers place ]

-- the number beside a name, as a list
abbrev pub number_at : Numbers → List ℕ → List ℕ
number_at table name = as_list (number_beside table.names table.numbers.items name)

-- each name has the number of the first of these components with that name
pub record Numbered (names : List (List ℕ)) (numbers : List ℕ) (components : List Component) : Type 0 where
  pub level : length numbers ≡ length names
  pub first : (name : List ℕ) → number_beside names numbers name ≡ position (λ c. same_text name c.name) components

-- the same, by a table of numbers
abbrev pub targets_by : (List ℕ → List ℕ) → Dep → List ℕ
targets_by numbers dep = if dep.internal then elim dep.kind [
  | Library ↦ flat_map (λ l. numbers (library_name l)) dep.libs
  | Tool ↦ numbers dep.exe
  | Setup ↦ []
] else []

-- the components that a component needs, by a table of numbers
abbrev pub needs_by : (List ℕ → List ℕ) → Component → List ℕ
needs_by numbers component = flat_map (λ guarded. targets_by numbers guarded.dep) component.build.deps
