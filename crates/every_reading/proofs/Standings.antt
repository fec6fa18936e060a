-- At the end each node is in some state. Whether it is held is decided from the nodes before it.
use Rattle.std.proofs.Common.{◌≡◌, ◌⊎◌, inl, inr, ◌<◌, ℕ, zero, suc, true, List, length, arith}
use Rattle.common_laws.specs.Graphs.{IsPath, last, more}
use Rattle.plan_nodes.specs.declared.node.PlanNode.{PlanNode}
use Rattle.plan_jobs.specs.declared.job.JobState.TheVariants.{Waiting, Running, Completed, Failed}
use Rattle.plan_jobs.specs.Events.{Event, IsHeld, NeedsNode, node_at, state_after, lists_id}
use Rattle.replay_text.specs.Replay.{IsCount, none, yes, no}
use Rattle.common_laws.specs.Decidability.{Dec, SomeBelow, both, is_true, never, some_below}
use Rattle.every_reading.proofs.StateTests.{completed, failed, runs, waits}

module _ (nodes : List PlanNode) (events : List Event) where
  -- a failed node is needed, directly or through others
  abbrev Reaches : ℕ → Type 0
  Reaches place = (need : ℕ) × IsPath (NeedsNode nodes) place need × (state_after nodes events need ≡ Failed)

  -- this need is the first step to a failed node
  abbrev By : ℕ → ℕ → Type 0
  By place need = (lists_id (node_at nodes place) (node_at nodes need).id ≡ true) × ((state_after nodes events need ≡ Failed) ⊎ Reaches need)

  either : {P Q : Type 0} → Dec P → Dec Q → Dec (P ⊎ Q)
  either (inl p) q = inl (inl p)
  either (inr not_p) (inl q) = inl (inr q)
  either (inr not_p) (inr not_q) = inr (λ h. elim h [ inl p ↦ not_p p | inr q ↦ not_q q ])

  found_by : (place need : ℕ) → need < place → By place need → Reaches place
  found_by place need l (w, inl fails) = (need, last (l, w), fails)
  found_by place need l (w, inr further) = (further.0, more (l, w) further.1, further.2)

  not_by : (place : ℕ) → ((need : ℕ) → need < place → By place need → ⊥) → (need : ℕ) → IsPath (NeedsNode nodes) place need → state_after nodes events need ≡ Failed → ⊥
  not_by place lacks need (last e) f = lacks need e.0 (e.1, inl f)
  not_by place lacks need (more {w = w} e p) f = lacks w e.0 (e.1, inr (need, p, f))

  reaches_by : (place : ℕ) → SomeBelow (By place) place → Dec (Reaches place)
  reaches_by place (inl found) = inl (found_by place found.0 found.1 found.2)
  reaches_by place (inr lacks) = inr (λ h. not_by place lacks h.0 h.1 h.2)

  reaches : (n place : ℕ) → place < n → Dec (Reaches place)
  reaches zero place l = absurd (omega (arith, l))
  reaches (suc n) place l =
      reaches_by place (some_below (By place) place (λ need m.
      both (is_true (lists_id (node_at nodes place) (node_at nodes need).id)) (either (failed (state_after nodes events need)) (reaches n need (omega (arith, l, m))))))

  is_held : (place : ℕ) → Dec (IsHeld nodes events place)
  is_held place = by (both (waits (state_after nodes events place)) (reaches (suc place) place (omega arith)))
    where
      by : Dec ((state_after nodes events place ≡ Waiting) × Reaches place) → Dec (IsHeld nodes events place)
      by (inl h) = inl (record { waits = h.0; need = h.1.0; path = h.1.1; failed = h.1.2 })
      by (inr denied) = inr (λ held. denied (held.waits, (held.need, held.path, held.failed)))

counted_by : (P : ℕ → Type 0) (n : ℕ) → Dec (P n) → (count : ℕ) × IsCount P n count → (count : ℕ) × IsCount P (suc n) count
counted_by P n (inl p) rest = (suc rest.0, yes p rest.1)
counted_by P n (inr other) rest = (rest.0, no other rest.1)

pub some_count : (P : ℕ → Type 0) → ((k : ℕ) → Dec (P k)) → (n : ℕ) → (count : ℕ) × IsCount P n count
some_count P dec zero = (zero, none)
some_count P dec (suc n) = counted_by P n (dec n) (some_count P dec n)

module _ (nodes : List PlanNode) (events : List Event) where
  -- the number of nodes with a property
  abbrev Counted : (ℕ → Type 0) → Type 0
  Counted P = (count : ℕ) × IsCount P (length nodes) count

  pub completed_count : Counted (λ place. state_after nodes events place ≡ Completed)
  completed_count = some_count (λ place. state_after nodes events place ≡ Completed) (λ place. completed (state_after nodes events place)) (length nodes)

  pub failed_count : Counted (λ place. state_after nodes events place ≡ Failed)
  failed_count = some_count (λ place. state_after nodes events place ≡ Failed) (λ place. failed (state_after nodes events place)) (length nodes)

  pub running_count : Counted (λ place. state_after nodes events place ≡ Running)
  running_count = some_count (λ place. state_after nodes events place ≡ Running) (λ place. runs (state_after nodes events place)) (length nodes)

  pub waiting_count : Counted (λ place. (state_after nodes events place ≡ Waiting) × (IsHeld nodes events place → ⊥))
  waiting_count =
      some_count (λ place. (state_after nodes events place ≡ Waiting) × (IsHeld nodes events place → ⊥))
      (λ place. both (waits (state_after nodes events place)) (never (is_held nodes events place))) (length nodes)

  pub held_count : Counted (IsHeld nodes events)
  held_count = some_count (IsHeld nodes events) (is_held nodes events) (length nodes)
