-- The nodes of a plan: the least set with the first nodes and, for each node, those that it needs.
use Rattle.std.specs.Prelude.{◌≡◌, ◌≢◌, ◌↔◌, Contains, AllPairs, map}
use Rattle.plan_components.specs.declared.node.Node.{Node}
use Rattle.plan_components.specs.declared.reached.Reached.{Reached}
use Rattle.plan_components.specs.Chosen.{Selection}
use Rattle.plan_components.specs.Needs.{needed_nodes, needs_of}
use Rattle.plan_components.specs.Places.{graph_of}
use Rattle.plan_components.specs.Wanted.{first_nodes}

-- a node is in the plan
pub data IsInPlan (selection : Selection) : Node → Type 0 where
  first : (node : Node) → Contains (first_nodes selection) node → IsInPlan selection node
  needed : (node other : Node) → IsInPlan selection node → Contains (needed_nodes selection node) other → IsInPlan selection other

-- all nodes of the plan, each once, and at the index of each its needs and their places
pub record AreReached (selection : Selection) (reached : Reached) : Type 0 where
  pub once : AllPairs (λ a b. a ≢ b) reached.set.keys
  pub each : (node : Node) → Contains reached.set.keys node ↔ IsInPlan selection node
  pub needs : reached.needs ≡ map (needs_of selection) reached.set.keys
  pub places : reached.places ≡ graph_of reached.set.keys reached.needs
