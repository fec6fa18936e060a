-- Laws of histories, which are lists of events with the right replies.
use Rattle.std.specs.Prelude.{◌≡◌, ◌⊎◌, ℕ, List, ◌∷◌, ◌++◌, Ok, Contains}
use Rattle.plan_nodes.specs.declared.node.PlanNode.{PlanNode}
use Rattle.plan_jobs.specs.declared.job.JobState.TheVariants.{Completed, Failed}
use Rattle.plan_jobs.specs.Events.{Event, IsHeld, IsReady, NeedsNode, running_after, starts, state_after}

-- the node at a place starts after the events in front
abbrev pub StartsBehind : List Event → List Event → ℕ → Type 0
StartsBehind events front place = (rest : List Event) × (events ≡ front ++ starts (Ok place) ∷ rest)

-- when a node starts, all its needs are completed
abbrev pub StartsAfterNeeds : List PlanNode → List Event → Type 0
StartsAfterNeeds nodes events = (front : List Event) (place need : ℕ) → StartsBehind events front place → NeedsNode nodes place need → state_after nodes front need ≡ Completed

-- no node starts twice
abbrev pub StartsOnce : List Event → Type 0
StartsOnce events = (front : List Event) (place : ℕ) → StartsBehind events front place → Contains front (starts (Ok place)) → ⊥

-- no held node starts
abbrev pub StartsNoneHeld : List PlanNode → List Event → Type 0
StartsNoneHeld nodes events = (front : List Event) (place : ℕ) → StartsBehind events front place → IsHeld nodes front place → ⊥

-- a node held after some events is held after all later ones
abbrev pub KeepsHeld : List PlanNode → List Event → Type 0
KeepsHeld nodes events = (front rest : List Event) (place : ℕ) → events ≡ front ++ rest → IsHeld nodes front place → IsHeld nodes events place

-- no node runs, and none is ready
pub record IsAtRest (nodes : List PlanNode) (events : List Event) : Type 0 where
  pub none_runs : running_after nodes events ≡ 0
  pub none_ready : (place : ℕ) → IsReady nodes events place → ⊥

-- a node is completed, has failed, or is held by one that has
abbrev pub HasEnded : List PlanNode → List Event → ℕ → Type 0
HasEnded nodes events place = (state_after nodes events place ≡ Completed) ⊎ (state_after nodes events place ≡ Failed) ⊎ IsHeld nodes events place
