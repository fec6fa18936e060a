-- The graph of components of a package and their needs.
use Rattle.std.specs.Prelude.{◌≡◌, ℕ, Bool, true, false, ◌&&◌, List, []}
use Rattle.std.specs.List.{Contains, list_any, list_all}
use Rattle.plan_types.specs.declared.dependency.Dep.{Dep}
use Rattle.plan_types.specs.declared.dependency.DepKind.{DepKind}
use Rattle.plan_types.specs.declared.dependency.DepKind.TheVariants as dep_kind
use Rattle.plan_types.specs.declared.dependency.LibName.{LibName}
use Rattle.plan_types.specs.declared.dependency.LibName.TheVariants.{Main, Named}
use Rattle.plan_types.specs.declared.description.CompKind.{CompKind}
use Rattle.plan_types.specs.declared.description.CompKind.TheVariants.{Library, Executable, Test, Bench, Foreign}
use Rattle.plan_types.specs.declared.description.Component.{Component}
use Rattle.plan_types.specs.Bytes.{same_text}
use Rattle.plan_types.specs.Packages.{is_library}

-- whether a component is an executable
abbrev pub is_executable : CompKind → Bool
is_executable kind = elim kind [ Library ↦ false | Executable ↦ true | Test ↦ false | Bench ↦ false | Foreign ↦ false ]

-- the component name of a library
abbrev pub name_of : LibName → List ℕ
name_of Main = []
name_of (Named name) = name

-- whether a component is this library
abbrev pub is_lib : Component → LibName → Bool
is_lib component lib = is_library component.kind && same_text component.name (name_of lib)

-- whether a component is the executable of this name
abbrev pub is_exe : Component → List ℕ → Bool
is_exe component exe = is_executable component.kind && same_text component.name exe

-- whether a dependency of a kind is on this component
abbrev pub asks_for : DepKind → Dep → Component → Bool
asks_for dep_kind.Library dep component = list_any (is_lib component) dep.libs
asks_for dep_kind.Tool dep component = is_exe component dep.exe
asks_for dep_kind.Setup dep component = false

-- whether all components that a dependency is on are among these
abbrev pub finds_all : DepKind → Dep → List Component → Bool
finds_all dep_kind.Library dep components = list_all (λ lib. list_any (λ component. is_lib component lib) components) dep.libs
finds_all dep_kind.Tool dep components = list_any (λ component. is_exe component dep.exe) components
finds_all dep_kind.Setup dep components = false

-- whether an internal dependency of the first is on the second, under any condition
abbrev pub needs : Component → Component → Bool
needs component other = list_any (λ guarded. guarded.dep.internal && asks_for guarded.dep.kind guarded.dep other) component.build.deps

-- a path of needs from one component to another
pub data Leads (components : List Component) : Component → Component → Type 0 where
  at_once : (from to : Component) → Contains components to → needs from to ≡ true → Leads components from to
  by_way_of : (from next to : Component) → Contains components next → needs from next ≡ true → Leads components next to → Leads components from to

-- no component has a path to itself
abbrev pub HasNoCycle : List Component → Type 0
HasNoCycle components = (component : Component) → Contains components component → Leads components component component → ⊥
