-- Nodes in their order, each line once.
use Rattle.std.specs.Prelude.{Bool, List, [], fold}
use Rattle.indexmap.specs.IndexSet.{insert_key}
use Rattle.plan_types.specs.Bytes.{same_text}
use Rattle.plan_nodes.specs.declared.node.PlanNode.{PlanNode}
use Rattle.plan_nodes.specs.Line.{node_line}

-- whether two nodes have equal lines
abbrev pub same_line : PlanNode → PlanNode → Bool
same_line node other = same_text (node_line node) (node_line other)

-- of nodes with equal lines, only the first is kept
abbrev pub each_line_once : List PlanNode → List PlanNode
each_line_once nodes = fold (insert_key same_line) [] nodes
