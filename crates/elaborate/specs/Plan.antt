-- The plan: the lines of its nodes in build order, each line once.
use Rattle.std.specs.Prelude.{◌≡◌, ◌≢◌, ℕ, List, Contains, AllPairs, map, slice_index_or}
use Rattle.std.specs.List.Sorted.{IsSorted}
use Rattle.build_order.specs.Order.{IsBuildOrder}
use Rattle.plan_nodes.specs.declared.node.PlanNode.{PlanNode}
use Rattle.plan_nodes.specs.Line.{no_line}
use Rattle.plan_nodes.specs.Once.{each_line_once}
use Rattle.plan_components.specs.declared.node.Node.{Node}
use Rattle.plan_components.specs.Chosen.{Selection}
use Rattle.plan_components.specs.Needs.{needs_of}
use Rattle.plan_components.specs.Plan.{IsInPlan}
use Rattle.plan_components.specs.Steps.{no_node}
use Rattle.node_lines.specs.Lines.{HasLine}
use Rattle.plan_components.specs.Places.{row_of}
use Rattle.elaborate.specs.Told.{lined_cmp}
use Rattle.elaborate.specs.declared.told.LinedNode.{LinedNode}

-- the nodes of these, without their lines
abbrev pub nodes_of : List LinedNode → List Node
nodes_of all = map (λ t. t.node) all

-- the nodes of the plan that have lines, each once, in sorted order
pub record AreRanked (selection : Selection) (all : List LinedNode) : Type 0 where
  pub once : AllPairs (λ a b. a ≢ b) (nodes_of all)
  pub sorted : IsSorted lined_cmp all
  pub inside : (t : LinedNode) → Contains all t → IsInPlan selection t.node
  pub lines : (t : LinedNode) → Contains all t → HasLine selection t.node t.line
  pub whole : (t : LinedNode) → IsInPlan selection t.node → HasLine selection t.node t.line → Contains all t

-- the graph of these nodes: the needs of each, by places among them
abbrev pub graph_of : Selection → List LinedNode → List (List ℕ)
graph_of selection all = map (λ t. row_of (nodes_of all) (needs_of selection t.node)) all

-- the default for a place out of range
abbrev pub no_told : LinedNode
no_told = record { node = no_node; line = no_line }

-- the line at a place
abbrev pub line_at : List LinedNode → ℕ → PlanNode
line_at all place = (slice_index_or all place no_told).line

-- the plan: the nodes with lines in build order, each line once
pub record IsPlan (selection : Selection) (lines : List PlanNode) : Type 0 where
  pub all : List LinedNode
  pub ranked : AreRanked selection all
  pub places : List ℕ
  pub in_order : IsBuildOrder (graph_of selection all) places
  pub lines_are : lines ≡ each_line_once (map (line_at all) places)
