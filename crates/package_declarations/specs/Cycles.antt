-- The graph of components of a package and their needs.
use Rattle.std.specs.Prelude.{ℕ, if◌then◌else◌, List, [], map, flat_map, position}
use Rattle.plan_types.specs.declared.dependency.Dep.{Dep}
use Rattle.plan_types.specs.declared.dependency.DepKind.TheVariants.{Library, Tool, Setup}
use Rattle.plan_types.specs.declared.description.Component.{Component}
use Rattle.package_declarations.specs.Declarations.{as_list}
use Rattle.plan_types.specs.Bytes.{same_text}
use Rattle.plan_types.specs.Packages.{library_name}

-- the number of the first component with a name; kinds don't matter, since component names are distinct
abbrev pub number_in : List Component → List ℕ → List ℕ
number_in components name = as_list (position (λ c. same_text name c.name) components)

-- the numbers of the own components that a dependency is on
abbrev pub targets : List Component → Dep → List ℕ
targets components dep = if dep.internal then elim dep.kind [
  | Library ↦ flat_map (λ l. number_in components (library_name l)) dep.libs
  | Tool ↦ number_in components dep.exe
  | Setup ↦ []
] else []

-- for each component the numbers of those that it needs, under any condition
abbrev pub needs : List Component → List (List ℕ)
needs components = map (λ c. flat_map (λ guarded. targets components guarded.dep) c.build.deps) components
