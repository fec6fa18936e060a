-- Nodes zipped with their lines, without nodes that have none.
use Rattle.std.specs.Prelude.{ℕ, suc, List, [], ◌∷◌, ◌++◌, Option, Some, None}
use Rattle.plan_nodes.specs.declared.node.PlanNode.{PlanNode}
use Rattle.plan_components.specs.declared.node.Node.{Node}
use Rattle.elaborate.specs.declared.told.LinedNode.{LinedNode}
use Rattle.elaborate.specs.declared.told.PlacedLine.{PlacedLine}

-- a node with its line, or nothing if it has none
abbrev pub lined_node : Node → Option PlanNode → List LinedNode
lined_node node None = []
lined_node node (Some line) = record { node = node; line = line } ∷ []

-- the line of a node
abbrev pub line_of : LinedNode → Option PlanNode
line_of told = Some told.line

-- the nodes that have lines, with these
abbrev pub lined_nodes : List Node → List (Option PlanNode) → List LinedNode
lined_nodes [] lines = []
lined_nodes (node ∷ nodes) [] = []
lined_nodes (node ∷ nodes) (line ∷ lines) = lined_node node line ++ lined_nodes nodes lines

-- the node and the line of one that is placed
abbrev pub lined_of : PlacedLine → LinedNode
lined_of placed = placed.lined

-- a node with its line and place, or nothing if it has no line
abbrev pub placed_line : ℕ → Node → Option PlanNode → List PlacedLine
placed_line place node None = []
placed_line place node (Some line) = record { place = place; lined = record { node = node; line = line } } ∷ []

-- the nodes that have lines, with these and with their places, counted from one
abbrev pub placed_from : ℕ → List Node → List (Option PlanNode) → List PlacedLine
placed_from place [] lines = []
placed_from place (node ∷ nodes) [] = []
placed_from place (node ∷ nodes) (line ∷ lines) = placed_line place node line ++ placed_from (suc place) nodes lines

-- the nodes that have lines, with these and with their places
abbrev pub placed_lines : List Node → List (Option PlanNode) → List PlacedLine
placed_lines nodes lines = placed_from 0 nodes lines
