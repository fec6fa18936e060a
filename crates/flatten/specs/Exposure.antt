-- The components of a description that other packages may use.
use Rattle.std.specs.Prelude.{ℕ, Bool, true, false, not, None, List, [], ◌∷◌, filter, flat_map}
use Rattle.plan_types.specs.declared.condition.Env.{Env}
use Rattle.plan_types.specs.declared.dependency.LibName.{LibName}
use Rattle.plan_types.specs.declared.dependency.LibName.TheVariants.{Main, Named}
use Rattle.plan_types.specs.declared.description.CompKind.{CompKind}
use Rattle.plan_types.specs.declared.description.CompKind.TheVariants.{Library, Executable, Test, Bench, Foreign}
use Rattle.plan_types.specs.declared.description.Component.{Component}
use Rattle.plan_types.specs.declared.description.Description.{Description}
use Rattle.plan_types.specs.declared.index.Exposed.{Exposed}
use Rattle.conditionals.specs.declared.value.Tri.{Tri}
use Rattle.conditionals.specs.declared.value.Tri.TheVariants.{Yes, No, Unknown}
use Rattle.conditionals.specs.Value.{value}

-- the value is No
abbrev pub is_no : Tri → Bool
is_no Yes = false
is_no No = true
is_no Unknown = false

-- the component is unbuildable whatever the flags: its condition is No with no flag known
abbrev pub is_unbuildable : Env → Component → Bool
is_unbuildable env component = is_no (value env (λ _. None) component.build.buildable)

-- the library of this name, if it is the main one or public
abbrev pub lib_named : List ℕ → Bool → List LibName
lib_named [] public = Main ∷ []
lib_named (b ∷ bs) true = Named (b ∷ bs) ∷ []
lib_named (b ∷ bs) false = []

-- the library of a component that others may use
abbrev pub libs_of : CompKind → List ℕ → Bool → List LibName
libs_of Library name public = lib_named name public
libs_of Executable name public = []
libs_of Test name public = []
libs_of Bench name public = []
libs_of Foreign name public = []

-- the executable of a component
abbrev pub exes_of : CompKind → List ℕ → List (List ℕ)
exes_of Library name = []
exes_of Executable name = name ∷ []
exes_of Test name = []
exes_of Bench name = []
exes_of Foreign name = []

-- the components that aren't known to be unbuildable
abbrev pub buildable : Env → Description → List Component
buildable env d = filter (λ component. not (is_unbuildable env component)) d.components

-- the libraries and executables that others may use
abbrev pub exposed : Env → Description → Exposed
exposed env d = record {
  libs = flat_map (λ component. libs_of component.kind component.name component.public) (buildable env d);
  exes = flat_map (λ component. exes_of component.kind component.name) (buildable env d);
}
