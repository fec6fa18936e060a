-- What a node needs, by the whole conditions of its dependencies under the chosen flags.
use Rattle.std.specs.Prelude.{ℕ, Bool, true, false, not, ◌&&◌, ◌||◌, if◌then◌else◌, List, [], ◌∷◌, ◌++◌, map, filter, flat_map, slice_get, Option, Some, None}
use Rattle.std.specs.List.{list_any}
use Rattle.plan_types.specs.declared.condition.FlagSet.{FlagSet}
use Rattle.plan_types.specs.declared.dependency.Dep.{Dep}
use Rattle.plan_types.specs.declared.dependency.DepKind.{DepKind}
use Rattle.plan_types.specs.declared.dependency.DepKind.TheVariants as dep_kind
use Rattle.plan_types.specs.declared.description.Component.{Component}
use Rattle.plan_types.specs.declared.description.Description.{Description}
use Rattle.plan_types.specs.Guarded.{GuardedDep}
use Rattle.plan_types.specs.declared.index.Body.{Body}
use Rattle.plan_types.specs.declared.index.Body.TheVariants.{Source, Installed}
use Rattle.flatten.specs.OwnComponents.{is_exe, is_lib}
use Rattle.flatten.specs.WholeCondition.{whole_condition}
use Rattle.qualified_goals.specs.declared.variable.Qual.{Qual}
use Rattle.qualified_goals.specs.Names.{Name}
use Rattle.solver_index.specs.Places.{number}
use Rattle.cabal_problem.specs.ListedDemands.{qual_for}
use Rattle.cabal_problem.specs.Values.{package_var}
use Rattle.plan_components.specs.declared.node.Need.{Need}
use Rattle.plan_components.specs.declared.node.Node.{Node}
use Rattle.plan_components.specs.declared.node.Piece.{Piece}
use Rattle.plan_components.specs.declared.node.Piece.TheVariants.{Whole, One}
use Rattle.plan_components.specs.Chosen.{Selection, body_at, chosen_flags, condition_holds}
use Rattle.plan_components.specs.Wanted.{as_pieces, is_wanted_under, node_of, places}

-- ---- one dependency

-- whether a dependency means this component: a library or an executable of its name
abbrev pub means : DepKind → Dep → Component → Bool
means dep_kind.Library dep component = list_any (is_lib component) dep.libs
means dep_kind.Tool dep component = is_exe component dep.exe
means dep_kind.Setup dep component = list_any (is_lib component) dep.libs

-- the pieces of the chosen instance that a dependency means; an installed unit is whole
abbrev pub meant_pieces : Dep → Option Body → List Piece
meant_pieces dep None = []
meant_pieces dep (Some (Installed record_of needs)) = Whole ∷ []
meant_pieces dep (Some (Source source)) = as_pieces source.description.custom (places (means dep.kind dep) source.description.components)

-- the qualifier of a dependency's package: for the own package the node's, for another the one where it is chosen
abbrev pub qual_of_dep : Node → Dep → ℕ → Qual
qual_of_dep node dep t = if dep.internal then node.qual else qual_for dep.kind (package_var node.qual node.«package») t

-- the need of a piece by a dependency of this kind
abbrev pub need_of : DepKind → Qual → ℕ → Piece → Need
need_of kind q p piece = record { kind = kind; node = node_of q p piece }

-- the needs for a dependency on a package under a qualifier
abbrev pub needs_under : Selection → Dep → Qual → ℕ → List Need
needs_under selection dep q t = map (need_of dep.kind q t) (meant_pieces dep (body_at selection q t))

-- the needs of a node for a dependency
abbrev pub dep_needs : Selection → Node → Dep → List Need
dep_needs selection node dep =
    let t = number selection.packages selection.names dep.«package» in
    needs_under selection dep (qual_of_dep node dep t) t

-- ---- a component, or a package as a whole

-- dependencies on the own package are skipped unless `own` is true
abbrev pub is_asked : Bool → Dep → Bool
is_asked own dep = own || not dep.internal

-- whether a dependency counts: its whole condition is Yes
abbrev pub counts : Selection → List FlagSet → Bool → Component → GuardedDep → Bool
counts selection flags own component guarded =
    is_asked own guarded.dep && condition_holds selection.env flags (whole_condition component guarded)

-- the needs of a node for those dependencies of a component that count
abbrev pub needs_among : Selection → Node → List FlagSet → Bool → Component → List GuardedDep → List Need
needs_among selection node flags own component deps =
    flat_map (λ guarded. dep_needs selection node guarded.dep) (filter (counts selection flags own component) deps)

-- the needs of a component
abbrev pub component_needs : Selection → Node → List FlagSet → Bool → Component → List Need
component_needs selection node flags own component = needs_among selection node flags own component component.build.deps

-- the needs of the wanted components of a package that is built as a whole
abbrev pub wanted_needs : Selection → Node → List FlagSet → List Component → List Need
wanted_needs selection node flags components =
    flat_map (component_needs selection node flags false) (filter (is_wanted_under selection node.qual node.«package» flags) components)

-- the needs of a component; none if there is none
abbrev pub one_needs : Selection → Node → List FlagSet → Option Component → List Need
one_needs selection node flags None = []
one_needs selection node flags (Some component) = component_needs selection node flags true component

-- A component needs its dependencies that count. A package that is built as a whole needs those of its wanted
-- components, without the own ones, and those of its setup script.
abbrev pub piece_needs : Selection → Node → List FlagSet → Description → Piece → List Need
piece_needs selection node flags d Whole = wanted_needs selection node flags d.components ++ flat_map (dep_needs selection node) d.setup
piece_needs selection node flags d (One place) = one_needs selection node flags (slice_get d.components place)

-- ---- a node

-- an installed unit needs the units of its record, by their packages' names
abbrev pub unit_need : Selection → Node → Name → Need
unit_need selection node name = need_of dep_kind.Library node.qual (number selection.packages selection.names name) Whole

-- the needs of a node of a source instance
abbrev pub source_needs : Selection → Node → Description → List Need
source_needs selection node d = piece_needs selection node (chosen_flags selection node.qual node.«package» d) d node.piece

-- the needs of a node, by its chosen instance
abbrev pub needs_by : Selection → Node → Option Body → List Need
needs_by selection node None = []
needs_by selection node (Some (Installed record_of needs)) = map (unit_need selection node) needs
needs_by selection node (Some (Source source)) = source_needs selection node source.description

-- the needs of a node
abbrev pub needs_of : Selection → Node → List Need
needs_of selection node = needs_by selection node (body_at selection node.qual node.«package»)

-- the nodes among the needs
abbrev pub needed_nodes : Selection → Node → List Node
needed_nodes selection node = map (λ need. need.node) (needs_of selection node)
