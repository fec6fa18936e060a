-- The text of a replay.
use Rattle.std.specs.Prelude.{◌≡◌, ◌+◌, ℕ, zero, suc, List, [], ◌∷◌, ◌++◌, Result, Ok, Err, ⊤, codes, flat_map, length, map}
use Rattle.std.specs.Fmt.{decimal}
use Rattle.plan_nodes.specs.declared.node.PlanNode.{PlanNode}
use Rattle.plan_jobs.specs.declared.job.JobFault.{JobFault}
use Rattle.plan_jobs.specs.declared.job.JobFault.TheVariants.{NoneReady, NoSlot, NotRunning}
use Rattle.plan_jobs.specs.declared.job.JobState.TheVariants as state
use Rattle.plan_jobs.specs.Events.{Event, IsHeld, IsHistory, completes, fails, node_at, starts, state_after}
use Rattle.plan_jobs.specs.Board.{AreAfter, Board}
use Rattle.replay_text.specs.declared.event.JobEvent.{JobEvent}
use Rattle.replay_text.specs.declared.event.JobEvent.TheVariants.{Start, Completed, Failed}
use Rattle.replay_text.specs.declared.standing.EndState.{EndState}
use Rattle.replay_text.specs.declared.standing.EndState.TheVariants as standing

-- the event without its reply
abbrev pub asked : Event → JobEvent
asked (starts reply) = Start
asked (completes place reply) = Completed place
asked (fails place reply) = Failed place

abbrev pub fault_word : JobFault → List ℕ
fault_word NoneReady = codes "NoneReady"
fault_word NoSlot = codes "NoSlot"
fault_word NotRunning = codes "NotRunning"

-- the line of a start: the number of the node from 1 and its identifier, or why none starts
abbrev pub start_line : List PlanNode → Result ℕ JobFault → List ℕ
start_line nodes (Ok place) = codes "start " ++ decimal (place + 1) ++ codes " " ++ (node_at nodes place).id ++ codes "\n"
start_line nodes (Err fault) = codes "start " ++ fault_word fault ++ codes "\n"

-- the line of a report on a node, with the reason if it is refused
abbrev pub end_line : List ℕ → ℕ → Result ⊤ JobFault → List ℕ
end_line word place (Ok accepted) = word ++ decimal (place + 1) ++ codes "\n"
end_line word place (Err fault) = word ++ decimal (place + 1) ++ codes " " ++ fault_word fault ++ codes "\n"

-- the line of an event with its reply
abbrev pub event_line : List PlanNode → Event → List ℕ
event_line nodes (starts reply) = start_line nodes reply
event_line nodes (completes place reply) = end_line (codes "completed ") place reply
event_line nodes (fails place reply) = end_line (codes "failed ") place reply

-- a node is in this state at the end; a held node doesn't count as waiting
abbrev pub HasEndState : List PlanNode → List Event → ℕ → EndState → Type 0
HasEndState nodes told place standing.Completed = state_after nodes told place ≡ state.Completed
HasEndState nodes told place standing.Failed = state_after nodes told place ≡ state.Failed
HasEndState nodes told place standing.Running = state_after nodes told place ≡ state.Running
HasEndState nodes told place standing.Waiting = (state_after nodes told place ≡ state.Waiting) × (IsHeld nodes told place → ⊥)
HasEndState nodes told place standing.Held = IsHeld nodes told place

-- this many of the first places have the property
pub data IsCount (P : ℕ → Type 0) : ℕ → ℕ → Type 0 where
  none : IsCount P zero zero
  yes : {places count : ℕ} → P places → IsCount P places count → IsCount P (suc places) (suc count)
  no : {places count : ℕ} → (P places → ⊥) → IsCount P places count → IsCount P (suc places) count

-- the line with the number of nodes that are completed, have failed, run, wait and are held
abbrev pub counts_line : ℕ → ℕ → ℕ → ℕ → ℕ → List ℕ
counts_line completed failed running waiting held =
    codes "completed " ++ decimal completed ++ codes " failed " ++ decimal failed ++ codes " running " ++ decimal running ++ codes " waiting " ++ decimal waiting
    ++ codes " held " ++ decimal held ++ codes "\n"

-- that line is appended, with the numbers of nodes after these events
pub record IsCounted (plan : List PlanNode) (told : List Event) (nodes : ℕ) (old new : List ℕ) : Type 0 where
  pub completed : ℕ
  pub failed : ℕ
  pub running : ℕ
  pub waiting : ℕ
  pub held : ℕ
  pub are_completed : IsCount (λ place. HasEndState plan told place standing.Completed) nodes completed
  pub have_failed : IsCount (λ place. HasEndState plan told place standing.Failed) nodes failed
  pub run : IsCount (λ place. HasEndState plan told place standing.Running) nodes running
  pub wait : IsCount (λ place. HasEndState plan told place standing.Waiting) nodes waiting
  pub are_held : IsCount (λ place. HasEndState plan told place standing.Held) nodes held
  pub text : new ≡ old ++ counts_line completed failed running waiting held

-- the event gets its right reply, and its line is appended
pub record AppendsEvent (nodes : List PlanNode) (slots : ℕ) (told : List Event) (event : JobEvent) (board : Board) (old new : List ℕ) : Type 0 where
  pub now : Event
  pub same : asked now ≡ event
  pub after : AreAfter nodes slots (told ++ now ∷ []) board
  pub text : new ≡ old ++ event_line nodes now

-- the lines of the events so far
abbrev pub history_text : List PlanNode → List Event → List ℕ
history_text nodes told = codes "replay\n" ++ flat_map (event_line nodes) told

-- the text of a replay: these events with their right replies, and then how many nodes are in each state
pub record IsReplay (nodes : List PlanNode) (slots : ℕ) (events : List JobEvent) (text : List ℕ) : Type 0 where
  pub told : List Event
  pub history : IsHistory nodes slots told
  pub same : map asked told ≡ events
  pub counted : IsCounted nodes told (length nodes) (history_text nodes told) text
