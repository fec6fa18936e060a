-- Each event has a right reply: of the ready nodes one is the least, or none is ready.
use Rattle.std.proofs.Common.{◌≡◌, inl, inr, ◌<◌, ℕ, true, List, Result, Ok, Err, length, refl}
use Rattle.std.specs.Prelude.{⊤}
use Rattle.plan_nodes.specs.declared.node.PlanNode.{PlanNode}
use Rattle.plan_jobs.specs.declared.job.JobFault.{JobFault}
use Rattle.plan_jobs.specs.declared.job.JobFault.TheVariants.{NoneReady, NoSlot, NotRunning}
use Rattle.plan_jobs.specs.declared.job.JobState.TheVariants.{Waiting, Completed}
use Rattle.plan_jobs.specs.Events.{Event, IsReportReply, IsReady, IsRight, IsStart, Runs, completes, fails, node_at, running_after, starts, state_after, lists_id}
use Rattle.replay_text.specs.Replay.{asked}
use Rattle.replay_text.specs.declared.event.JobEvent.{JobEvent}
use Rattle.replay_text.specs.declared.event.JobEvent.TheVariants as event
use Rattle.common_laws.specs.Decidability.{Dec, LeastBelow, SomeBelow, both, is_true, least_below, less, never, same, some_below}
use Rattle.every_reading.proofs.StateTests.{completed, runs, waits}

module _ (nodes : List PlanNode) (events : List Event) where
  -- a need that isn't completed
  abbrev IsOpen : ℕ → ℕ → Type 0
  IsOpen place need = (lists_id (node_at nodes place) (node_at nodes need).id ≡ true) × (state_after nodes events need ≡ Completed → ⊥)

  is_open : (place need : ℕ) → Dec (IsOpen place need)
  is_open place need = both (is_true (lists_id (node_at nodes place) (node_at nodes need).id)) (never (completed (state_after nodes events need)))

  met_by : (place need : ℕ) → (IsOpen place need → ⊥) → lists_id (node_at nodes place) (node_at nodes need).id ≡ true → Dec (state_after nodes events need ≡ Completed)
      → state_after nodes events need ≡ Completed
  met_by place need denied w (inl done) = done
  met_by place need denied w (inr unmet) = absurd (denied (w, unmet))

  ready_by : (place : ℕ) → Dec (place < length nodes) → Dec (state_after nodes events place ≡ Waiting) → SomeBelow (IsOpen place) place → Dec (IsReady nodes events place)
  ready_by place (inl node) (inl waiting) (inr none) = inl (record {
    node = node;
    waits = waiting;
    met = λ need n. met_by place need (none need n.0) n.1 (completed (state_after nodes events need));
  })
  ready_by place (inl node) (inl waiting) (inl found) = inr (λ r. found.2.1 (r.met found.0 (found.1, found.2.0)))
  ready_by place (inl node) (inr denied) needs = inr (λ r. denied r.waits)
  ready_by place (inr denied) waiting needs = inr (λ r. denied r.node)

  is_ready : (place : ℕ) → Dec (IsReady nodes events place)
  is_ready place =
      ready_by place (less place (length nodes)) (waits (state_after nodes events place)) (some_below (IsOpen place) place (λ need l. is_open place need))

  -- ---- replies

  module _ (slots : ℕ) where
    start_by : Dec (running_after nodes events ≡ slots) → LeastBelow (IsReady nodes events) (length nodes) → (reply : Result ℕ JobFault) × IsStart nodes slots events reply
    start_by (inl full) least = (Err NoSlot, full)
    start_by (inr free) (inl found) = (Ok found.0, (free, record { ready = found.1; least = found.2 }))
    start_by (inr free) (inr none) = (Err NoneReady, (free, λ place r. none place r.node r))

    some_start : (reply : Result ℕ JobFault) × IsStart nodes slots events reply
    some_start = start_by (same (running_after nodes events) slots) (least_below (IsReady nodes events) (length nodes) is_ready)

  end_by : (place : ℕ) → Dec (Runs nodes events place) → (reply : Result ⊤ JobFault) × IsReportReply nodes events place reply
  end_by place (inl running) = (Ok tt, running)
  end_by place (inr denied) = (Err NotRunning, denied)

  some_end : (place : ℕ) → (reply : Result ⊤ JobFault) × IsReportReply nodes events place reply
  some_end place = end_by place (both (less place (length nodes)) (runs (state_after nodes events place)))

  pub some_reply : (slots : ℕ) (asks : JobEvent) → (now : Event) × (asked now ≡ asks) × IsRight nodes slots events now
  some_reply slots event.Start = let reply = some_start slots in (starts reply.0, refl, reply.1)
  some_reply slots (event.Completed place) = let reply = some_end place in (completes place reply.0, refl, reply.1)
  some_reply slots (event.Failed place) = let reply = some_end place in (fails place reply.0, refl, reply.1)
