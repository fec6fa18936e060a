-- A plan that lacks no node.
use Rattle.std.specs.Prelude.{List, Contains, map}
use Rattle.plan_nodes.specs.declared.node.PlanNode.{PlanNode}
use Rattle.plan_nodes.specs.Line.{node_line}
use Rattle.plan_components.specs.declared.node.Node.{Node}
use Rattle.plan_components.specs.Chosen.{Selection}
use Rattle.plan_components.specs.Plan.{IsInPlan}
use Rattle.node_lines.specs.Lines.{HasLine}

-- a node has a line, which is among these
pub record IsPrinted (selection : Selection) (lines : List PlanNode) (node : Node) : Type 0 where
  pub line : PlanNode
  pub has : HasLine selection node line
  pub told : Contains (map node_line lines) (node_line line)

-- each node of the plan is printed
abbrev pub LacksNone : Selection → List PlanNode → Type 0
LacksNone selection lines = (node : Node) → IsInPlan selection node → IsPrinted selection lines node
