-- The line of a node, as a plan prints it.
use Rattle.std.specs.Prelude.{ℕ, Bool, true, false, List, [], ◌∷◌, ◌++◌, fold, flat_map, codes}
use Rattle.std.specs.BTreeSet.{insert_key}
use Rattle.std.specs.Cmp.Lexicographic.{slice_cmp}
use Rattle.std.specs.Ordering.{nat_cmp}
use Rattle.plan_types.specs.declared.version.Version.{Version}
use Rattle.version_range.specs.Version.{version_text}
use Rattle.plan_nodes.specs.declared.node.NodeKind.{NodeKind}
use Rattle.plan_nodes.specs.declared.node.NodeKind.TheVariants.{Installed, Local, Store}
use Rattle.plan_nodes.specs.declared.node.PlanNode.{PlanNode}

-- texts in byte order, each once
abbrev pub in_order : List (List ℕ) → List (List ℕ)
in_order texts = fold (insert_key (slice_cmp nat_cmp)) [] texts

-- the identifiers of all needs of a node
abbrev pub all_needs : PlanNode → List (List ℕ)
all_needs node = in_order (node.libs ++ node.tools ++ node.setups)

-- the printed word of a kind
abbrev pub kind_word : NodeKind → List ℕ
kind_word Installed = codes "installed"
kind_word Local = codes "local"
kind_word Store = codes "store"

-- a name, a dash and a version
abbrev pub name_and_version : List ℕ → Version → List ℕ
name_and_version name version = name ++ codes "-" ++ version_text version.parts

-- a package and its version
abbrev pub package_text : PlanNode → List ℕ
package_text node = name_and_version node.name node.version

-- a word for an unbuildable node
abbrev pub unbuildable_text : Bool → List ℕ
unbuildable_text true = codes " unbuildable"
unbuildable_text false = []

-- a blank, then an identifier
abbrev pub behind_blank : List ℕ → List ℕ
behind_blank id = codes " " ++ id

-- the printed needs, if there are any
abbrev pub needs_text : List (List ℕ) → List ℕ
needs_text [] = []
needs_text (id ∷ ids) = codes " needs" ++ flat_map behind_blank (id ∷ ids)

-- the kind, package with version, component and identifier of a node
abbrev pub head_text : PlanNode → List ℕ
head_text node =
    codes "node " ++ kind_word node.kind ++ codes " " ++ package_text node ++ codes " " ++ node.component ++ codes " " ++ node.id

-- the line of a node
abbrev pub node_line : PlanNode → List ℕ
node_line node = head_text node ++ unbuildable_text node.unbuildable ++ needs_text (all_needs node) ++ codes "\n"

-- the node that is read at a place beyond the last
abbrev pub no_line : PlanNode
no_line = record {
  kind = Store;
  name = [];
  version = record { parts = [] };
  component = [];
  id = [];
  unbuildable = false;
  libs = [];
  tools = [];
  setups = [];
}
