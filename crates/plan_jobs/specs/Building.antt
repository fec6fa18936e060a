-- The users of each node, as the nodes are read.
use Rattle.std.specs.Prelude.{◌≡◌, ◌<◌, ◌++◌, ◌↔◌, ℕ, false, List, [], ◌∷◌, if◌then◌else◌, length, flat_map, map, slice_index}
use Rattle.indexmap.specs.IndexMap.{IndexMap}
use Rattle.keyed_lists.specs.Lists.{items_at}
use Rattle.plan_types.specs.Bytes.{same_text}
use Rattle.plan_nodes.specs.declared.node.PlanNode.{PlanNode}
use Rattle.plan_jobs.specs.declared.job.JobState.{JobState}
use Rattle.plan_jobs.specs.declared.needs.Needs.{Needs}
use Rattle.plan_jobs.specs.Events.{NeedsNode, is_installed, state_by}
use Rattle.plan_jobs.specs.Board.{IsUser, open_needs}

-- the state of a node before all events
abbrev pub first_state : PlanNode → JobState
first_state node = state_by node.unbuildable (is_installed node.kind) false

-- the places of the nodes with the identifiers that a node lists; none for an installed node
abbrev pub listed_places : {S : Type 0} → IndexMap (List ℕ) (List ℕ) S → PlanNode → List ℕ
listed_places places node =
    if is_installed node.kind then [] else flat_map (items_at same_text places) node.libs ++ flat_map (items_at same_text places) node.tools ++ flat_map (items_at same_text places) node.setups

-- an identifier has one more place
abbrev pub AddsPlace : {S : Type 0} → IndexMap (List ℕ) (List ℕ) S → List ℕ → ℕ → IndexMap (List ℕ) (List ℕ) S → Type 0
AddsPlace old id place new = (other : List ℕ) → items_at same_text new other ≡ items_at same_text old other ++ (if same_text id other then place ∷ [] else [])

-- the states, users and counts are those of these nodes
pub record AreOf (nodes : List PlanNode) (needs : Needs) : Type 0 where
  pub states : needs.states ≡ map first_state nodes
  pub count : length needs.users.items ≡ length nodes
  pub users : (user place : ℕ) → IsUser needs.users.items user place ↔ NeedsNode nodes user place
  pub unmet : (place : ℕ) → place < length nodes → slice_index needs.unmet place ≡ open_needs needs.users.items needs.states place
  pub counts : length needs.unmet ≡ length nodes
