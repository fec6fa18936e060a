-- The line of a plan's node, by the identifiers of its needs.
use Rattle.std.specs.Prelude.{ℕ, Bool, false, not, ◌&&◌, if◌then◌else◌, List, [], codes, slice_get, Option, Some, None}
use Rattle.plan_types.specs.declared.condition.Env.{Env}
use Rattle.plan_types.specs.declared.condition.FlagSet.{FlagSet}
use Rattle.plan_types.specs.declared.description.Component.{Component}
use Rattle.plan_types.specs.declared.description.Description.{Description}
use Rattle.plan_types.specs.declared.index.Body.{Body}
use Rattle.plan_types.specs.declared.index.Body.TheVariants.{Source, Installed}
use Rattle.plan_types.specs.declared.version.Version.{Version}
use Rattle.plan_types.specs.Packages.{package_at}
use Rattle.plan_nodes.specs.declared.node.NodeKind.{NodeKind}
use Rattle.plan_nodes.specs.declared.node.NodeKind.TheVariants as kind
use Rattle.plan_nodes.specs.declared.node.PlanNode.{PlanNode}
use Rattle.store_id.specs.Identifier.{id_of, in_place_id}
use Rattle.cabal_problem.specs.Variables.{is_top}
use Rattle.plan_components.specs.declared.node.Node.{Node}
use Rattle.plan_components.specs.declared.node.Piece.{Piece}
use Rattle.plan_components.specs.declared.node.Piece.TheVariants.{Whole, One}
use Rattle.plan_components.specs.Chosen.{Selection, body_at, chosen_flags, condition_holds}
use Rattle.plan_lines.specs.ComponentName.{piece_name}
use Rattle.plan_lines.specs.declared.needed.Needed.{Needed}

-- ---- kinds

-- a local package at top level is built in place, any other source instance into the store
abbrev pub source_kind : Selection → Node → NodeKind
source_kind selection node = if is_top node.qual && (package_at selection.packages node.«package»).local then kind.Local else kind.Store

-- ---- unbuildable nodes

-- whether a component is unbuildable under these flags; false if there is none
abbrev pub is_unbuildable_one : Env → List FlagSet → Option Component → Bool
is_unbuildable_one env flags None = false
is_unbuildable_one env flags (Some component) = not (condition_holds env flags component.build.buildable)

-- A package that is built as a whole is never unbuildable: it builds the components that it can.
abbrev pub is_unbuildable : Env → List FlagSet → List Component → Piece → Bool
is_unbuildable env flags components Whole = false
is_unbuildable env flags components (One place) = is_unbuildable_one env flags (slice_get components place)

-- ---- identifiers

-- the identifier of a source instance's line, by its kind
abbrev pub id_by : NodeKind → PlanNode → Description → List FlagSet → Env → List ℕ
id_by kind.Installed line d flags env = []
id_by kind.Local line d flags env = in_place_id line
id_by kind.Store line d flags env = id_of line d flags env

-- a line with an identifier
abbrev pub with_id : List ℕ → PlanNode → PlanNode
with_id id line = record line { id = id }

-- ---- lines

-- the line of a source instance, without its identifier
abbrev pub source_line : Selection → Node → List FlagSet → Description → Needed → PlanNode
source_line selection node flags d needed = record {
  kind = source_kind selection node;
  name = d.name;
  version = d.version;
  component = piece_name d node.piece;
  id = [];
  unbuildable = is_unbuildable selection.env flags d.components node.piece;
  libs = needed.libs;
  tools = needed.tools;
  setups = needed.setups;
}

-- the line of a source instance
abbrev pub source_with_id : Selection → Node → List FlagSet → Description → Needed → PlanNode
source_with_id selection node flags d needed =
    let line = source_line selection node flags d needed in
    with_id (id_by line.kind line d flags selection.env) line

-- the line of a unit, which is the main library of its package
abbrev pub unit_line : List ℕ → Version → List ℕ → Needed → PlanNode
unit_line name version id needed = record {
  kind = kind.Installed;
  name = name;
  version = version;
  component = codes "lib";
  id = id;
  unbuildable = false;
  libs = needed.libs;
  tools = needed.tools;
  setups = needed.setups;
}

-- the line of a node, by its chosen instance
abbrev pub line_by : Selection → Node → Needed → Option Body → Option PlanNode
line_by selection node needed None = None
line_by selection node needed (Some (Installed record_of needs)) = Some (unit_line record_of.name record_of.version record_of.id needed)
line_by selection node needed (Some (Source source)) =
    Some (source_with_id selection node (chosen_flags selection node.qual node.«package» source.description) source.description needed)

-- the line of a node with these needs; none without a chosen instance
abbrev pub line_of : Selection → Node → Needed → Option PlanNode
line_of selection node needed = line_by selection node needed (body_at selection node.qual node.«package»)
