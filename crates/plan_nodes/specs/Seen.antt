-- What tells a further node from those that are kept.
use Rattle.std.specs.Prelude.{◌≡◌, ℕ, Bool, true, ◌&&◌, ◌==◌, not, List, [], fold, map}
use Rattle.std.specs.List.{list_all}
use Rattle.indexmap.specs.IndexSet.{insert_key}
use Rattle.plan_types.specs.Bytes.{same_text}
use Rattle.plan_nodes.specs.declared.node.PlanNode.{PlanNode}
use Rattle.plan_nodes.specs.declared.once.Seen.{Seen}
use Rattle.plan_nodes.specs.declared.once.Seen.TheVariants.{Ids, Lines}
use Rattle.plan_nodes.specs.Line.{node_line}

-- neither a blank nor a line feed
abbrev pub is_solid : ℕ → Bool
is_solid b = not (b == 32) && not (b == 10)

-- a text with no blank and no line feed
abbrev pub is_word : List ℕ → Bool
is_word text = list_all is_solid text

-- a node whose identifier can be read off its line
abbrev pub is_plain : PlanNode → Bool
is_plain node = is_word node.name && is_word node.component && is_word node.id

-- these are the identifiers of plain nodes, in order
pub record AreIds (ids : List (List ℕ)) (nodes : List PlanNode) : Type 0 where
  pub ids_are : ids ≡ map (λ (node : PlanNode). node.id) nodes
  pub plain : list_all is_plain nodes ≡ true

-- the lines with that of a node
abbrev pub with_line : List (List ℕ) → PlanNode → List (List ℕ)
with_line lines node = insert_key same_text lines (node_line node)

-- these are the lines of the nodes, each once
abbrev pub AreLines : List (List ℕ) → List PlanNode → Type 0
AreLines lines nodes = lines ≡ fold with_line [] nodes

-- what was noted of the kept nodes is right
abbrev pub Knows : Seen → List PlanNode → Type 0
Knows (Ids ids) kept = AreIds ids.keys kept
Knows (Lines lines) kept = AreLines lines.keys kept
