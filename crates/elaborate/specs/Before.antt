-- The lines before a line of a plan.
use Rattle.std.specs.Prelude.{◌≡◌, ℕ, List, ◌∷◌, ◌++◌, Contains, map}
use Rattle.plan_nodes.specs.declared.node.PlanNode.{PlanNode}
use Rattle.plan_nodes.specs.Line.{all_needs, node_line}

-- an identifier is that of a node whose line is among these
pub record IsPrintedIn (lines : List PlanNode) (id : List ℕ) : Type 0 where
  pub node : PlanNode
  pub has : node.id ≡ id
  pub told : Contains (map node_line lines) (node_line node)

-- each identifier that a line needs is printed before the line
abbrev pub NeedsPrintedBefore : List PlanNode → Type 0
NeedsPrintedBefore lines = (front rest : List PlanNode) (line : PlanNode) (id : List ℕ) → lines ≡ front ++ line ∷ rest
    → Contains (all_needs line) id → IsPrintedIn front id
