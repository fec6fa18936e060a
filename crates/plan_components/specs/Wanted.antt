-- The first nodes of a plan: the components that are wanted for their own sake.
use Rattle.std.specs.Prelude.{ℕ, suc, Bool, true, false, ◌&&◌, ◌||◌, if◌then◌else◌, List, [], ◌∷◌, length, map, flat_map, Option, Some, None}
use Rattle.plan_types.specs.declared.condition.FlagSet.{FlagSet}
use Rattle.plan_types.specs.declared.dependency.LibName.TheVariants.{Main}
use Rattle.plan_types.specs.declared.description.CompKind.{CompKind}
use Rattle.plan_types.specs.declared.description.CompKind.TheVariants.{Library, Executable, Test, Bench, Foreign}
use Rattle.plan_types.specs.declared.description.Component.{Component}
use Rattle.plan_types.specs.declared.description.Description.{Description}
use Rattle.plan_types.specs.declared.index.Body.{Body}
use Rattle.plan_types.specs.declared.index.Body.TheVariants.{Source, Installed}
use Rattle.plan_types.specs.declared.index.Package.{Package}
use Rattle.plan_types.specs.Packages.{package_at}
use Rattle.flatten.specs.OwnComponents.{is_executable, is_lib}
use Rattle.qualified_goals.specs.declared.variable.Part.TheVariants.{Tests, Benches}
use Rattle.qualified_goals.specs.declared.variable.Qual.{Qual}
use Rattle.qualified_goals.specs.declared.variable.Qual.TheVariants.{Top}
use Rattle.solver_index.specs.Places.{rising}
use Rattle.plan_components.specs.declared.node.Node.{Node}
use Rattle.plan_components.specs.declared.node.Piece.{Piece}
use Rattle.plan_components.specs.declared.node.Piece.TheVariants.{Whole, One}
use Rattle.plan_components.specs.Chosen.{Selection, body_at, chosen_flags, condition_holds, is_turned_on}

-- ---- pieces of a package

-- the places of the components that pass a test, counted from k
abbrev pub places_from : ℕ → (Component → Bool) → List Component → List ℕ
places_from k test [] = []
places_from k test (component ∷ components) =
    if test component then k ∷ places_from (suc k) test components else places_from (suc k) test components

-- the places of the components that pass a test, in file order of all components
abbrev pub places : (Component → Bool) → List Component → List ℕ
places test components = places_from 0 test components

-- A package with a setup script of its own is built as a whole if any of its components is meant.
abbrev pub as_pieces : Bool → List ℕ → List Piece
as_pieces false places = map One places
as_pieces true [] = []
as_pieces true (place ∷ places) = Whole ∷ []

-- a piece of a package under a qualifier
abbrev pub node_of : Qual → ℕ → Piece → Node
node_of q p piece = record { qual = q; «package» = p; piece = piece }

-- ---- wanted components

-- a test suite is asked for if the tests are on, a benchmark if the benchmarks are, any other component always
abbrev pub is_asked : Selection → Qual → ℕ → CompKind → Bool
is_asked selection q p Library = true
is_asked selection q p Executable = true
is_asked selection q p Test = is_turned_on selection q p Tests
is_asked selection q p Bench = is_turned_on selection q p Benches
is_asked selection q p Foreign = true

-- whether a component is asked for, and buildable under the chosen flags
abbrev pub is_wanted_under : Selection → Qual → ℕ → List FlagSet → Component → Bool
is_wanted_under selection q p flags component = is_asked selection q p component.kind && condition_holds selection.env flags component.build.buildable

-- the first list, or the second if that is empty
abbrev pub or_else : List ℕ → List ℕ → List ℕ
or_else [] others = others
or_else (place ∷ places) others = place ∷ places

-- all wanted components of a local package; of another one the wanted main library, or else the wanted executables
abbrev pub first_places : Bool → (Component → Bool) → List Component → List ℕ
first_places true wanted components = places wanted components
first_places false wanted components =
    or_else (places (λ c. is_lib c Main && wanted c) components) (places (λ c. is_executable c.kind && wanted c) components)

-- the first pieces of a source instance at top level
abbrev pub source_pieces : Selection → Bool → ℕ → Description → List Piece
source_pieces selection local p d =
    as_pieces d.custom (first_places local (is_wanted_under selection Top p (chosen_flags selection Top p d)) d.components)

-- the first pieces of an instance; a unit is one piece
abbrev pub first_pieces : Selection → Bool → ℕ → Option Body → List Piece
first_pieces selection local p None = []
first_pieces selection local p (Some (Installed record_of needs)) = Whole ∷ []
first_pieces selection local p (Some (Source source)) = source_pieces selection local p source.description

-- local packages and extra ones have first nodes
abbrev pub has_first_nodes : Package → Bool
has_first_nodes p = p.local || p.extra

-- the first nodes of one package
abbrev pub first_of : Selection → ℕ → List Node
first_of selection p =
    let of_package = package_at selection.packages p in
    if has_first_nodes of_package then map (node_of Top p) (first_pieces selection of_package.local p (body_at selection Top p)) else []

-- the first nodes of all packages, at top level
abbrev pub first_nodes : Selection → List Node
first_nodes selection = flat_map (first_of selection) (rising (length selection.packages))
