-- The lines of the nodes of a plan: a node has a line if all its needs have one.
use Rattle.std.specs.Prelude.{◌≡◌, ◌<◌, ◌↔◌, ℕ, Bool, true, false, List, Contains, length, map, filter, slice_index_or, Option, Some, None}
use Rattle.plan_types.specs.declared.dependency.DepKind.{DepKind}
use Rattle.plan_types.specs.declared.dependency.DepKind.TheVariants.{Library, Tool, Setup}
use Rattle.flatten.specs.Sound.{is_of_setup}
use Rattle.cabal_problem.specs.Variables.{is_tool}
use Rattle.plan_nodes.specs.declared.node.PlanNode.{PlanNode}
use Rattle.plan_nodes.specs.Line.{in_order}
use Rattle.plan_components.specs.declared.node.Need.{Need}
use Rattle.plan_components.specs.declared.node.Node.{Node}
use Rattle.plan_components.specs.Chosen.{Selection}
use Rattle.plan_components.specs.Needs.{needs_of}
use Rattle.plan_components.specs.Plan.{IsInPlan}
use Rattle.plan_components.specs.Steps.{node_at}
use Rattle.plan_lines.specs.declared.needed.Needed.{Needed}
use Rattle.plan_lines.specs.Line.{line_of}

-- whether a dependency is on a library, and not one of the setup script
abbrev pub is_of_library : DepKind → Bool
is_of_library Library = true
is_of_library Tool = false
is_of_library Setup = false

-- the identifiers of the needs of such kinds, in byte order, each once
abbrev pub ids_for : (DepKind → Bool) → (Node → PlanNode) → List Need → List (List ℕ)
ids_for is_meant line_at needs = in_order (map (λ need. (line_at need.node).id) (filter (λ need. is_meant need.kind) needs))

-- the identifiers of all needs, by kind of dependency
abbrev pub needed_by : (Node → PlanNode) → List Need → Needed
needed_by line_at needs = record {
  libs = ids_for is_of_library line_at needs;
  tools = ids_for is_tool line_at needs;
  setups = ids_for is_of_setup line_at needs;
}

-- A node has this line: each of its needs has a line, and it is made with their identifiers.
pub data HasLine (selection : Selection) : Node → PlanNode → Type 0 where
  told : (node : Node) (line : PlanNode) (line_at : Node → PlanNode)
      → ((need : Need) → Contains (needs_of selection node) need → HasLine selection need.node (line_at need.node))
      → line_of selection node (needed_by line_at (needs_of selection node)) ≡ Some line → HasLine selection node line

-- each node of the plan has a line
abbrev pub HaveLines : Selection → Type 0
HaveLines selection = (node : Node) → IsInPlan selection node → (line : PlanNode) × HasLine selection node line

-- the line of each node at its index, none for a node without a line
pub record AreLines (selection : Selection) (nodes : List Node) (lines : List (Option PlanNode)) : Type 0 where
  pub count : length lines ≡ length nodes
  pub each : (i : ℕ) (line : PlanNode) → i < length nodes
      → (slice_index_or lines i None ≡ Some line) ↔ HasLine selection (node_at nodes i) line
