-- Events of a build with their replies, and the state of each node after a list of them.
use Rattle.std.specs.Prelude.{◌≡◌, ◌≢◌, ◌<◌, ◌≤◌, ◌==◌, ◌||◌, ◌&&◌, ℕ, Bool, true, false, not, if◌then◌else◌, List, ◌∷◌, ◌++◌, Result, Ok, Err, ⊤, length, map, count_by, slice_index_or}
use Rattle.std.specs.List.{list_any, range_with_len}
use Rattle.plan_types.specs.Bytes.{same_text}
use Rattle.plan_nodes.specs.Line.{no_line}
use Rattle.plan_nodes.specs.declared.node.NodeKind.{NodeKind}
use Rattle.plan_nodes.specs.declared.node.NodeKind.TheVariants.{Installed, Local, Store}
use Rattle.plan_nodes.specs.declared.node.PlanNode.{PlanNode}
use Rattle.plan_jobs.specs.declared.job.JobFault.{JobFault}
use Rattle.plan_jobs.specs.declared.job.JobFault.TheVariants.{NoneReady, NoSlot, NotRunning}
use Rattle.plan_jobs.specs.declared.job.JobState.{JobState}
use Rattle.plan_jobs.specs.declared.job.JobState.TheVariants.{Waiting, Running, Completed, Failed}
use Rattle.common_laws.specs.Graphs.{IsPath}

-- a call with its reply
pub data Event : Type 0 where
  -- the question for the next node to start
  starts : Result ℕ JobFault → Event
  -- the report that the node at this place is completed
  completes : ℕ → Result ⊤ JobFault → Event
  -- the report that the node at this place has failed
  fails : ℕ → Result ⊤ JobFault → Event

-- the node at a place was started
abbrev pub is_start_of : ℕ → Event → Bool
is_start_of place (starts (Ok given)) = given == place
is_start_of place (starts (Err fault)) = false
is_start_of place (completes other reply) = false
is_start_of place (fails other reply) = false

-- an accepted report that the node at a place is completed
abbrev pub is_completion_of : ℕ → Event → Bool
is_completion_of place (starts reply) = false
is_completion_of place (completes other (Ok accepted)) = other == place
is_completion_of place (completes other (Err fault)) = false
is_completion_of place (fails other reply) = false

-- an accepted report that the node at a place has failed
abbrev pub is_failure_of : ℕ → Event → Bool
is_failure_of place (starts reply) = false
is_failure_of place (completes other reply) = false
is_failure_of place (fails other (Ok accepted)) = other == place
is_failure_of place (fails other (Err fault)) = false

abbrev pub node_at : List PlanNode → ℕ → PlanNode
node_at nodes place = slice_index_or nodes place no_line

abbrev pub is_installed : NodeKind → Bool
is_installed Installed = true
is_installed Local = false
is_installed Store = false

-- a state by three facts: failed goes before completed, and completed before started
abbrev pub state_by : Bool → Bool → Bool → JobState
state_by failed completed started = if failed then Failed else (if completed then Completed else (if started then Running else Waiting))

-- the state of the node at a place after these events
abbrev pub state_after : List PlanNode → List Event → ℕ → JobState
state_after nodes events place =
    state_by ((node_at nodes place).unbuildable || list_any (is_failure_of place) events)
    (is_installed (node_at nodes place).kind || list_any (is_completion_of place) events) (list_any (is_start_of place) events)

-- a node isn't installed, and has this identifier in one of its three lists
abbrev pub lists_id : PlanNode → List ℕ → Bool
lists_id node id = not (is_installed node.kind) && list_any (same_text id) (node.libs ++ node.tools ++ node.setups)

-- a node needs each earlier one whose identifier it lists
abbrev pub NeedsNode : List PlanNode → ℕ → ℕ → Type 0
NeedsNode nodes place need = (need < place) × (lists_id (node_at nodes place) (node_at nodes need).id ≡ true)

-- a node waits, and all its needs are completed
pub record IsReady (nodes : List PlanNode) (events : List Event) (place : ℕ) : Type 0 where
  pub node : place < length nodes
  pub waits : state_after nodes events place ≡ Waiting
  pub met : (need : ℕ) → NeedsNode nodes place need → state_after nodes events need ≡ Completed

pub record IsLeastReady (nodes : List PlanNode) (events : List Event) (place : ℕ) : Type 0 where
  pub ready : IsReady nodes events place
  pub least : (other : ℕ) → IsReady nodes events other → place ≤ other

-- a node waits, and needs a failed one, directly or through others
pub record IsHeld (nodes : List PlanNode) (events : List Event) (place : ℕ) : Type 0 where
  pub waits : state_after nodes events place ≡ Waiting
  pub need : ℕ
  pub path : IsPath (NeedsNode nodes) place need
  pub failed : state_after nodes events need ≡ Failed

-- the state of each node after these events
abbrev pub states_after : List PlanNode → List Event → List JobState
states_after nodes events = map (state_after nodes events) (range_with_len 0 (length nodes))

abbrev pub is_running : JobState → Bool
is_running Waiting = false
is_running Running = true
is_running Completed = false
is_running Failed = false

-- how many nodes run
abbrev pub running_after : List PlanNode → List Event → ℕ
running_after nodes events = count_by is_running (states_after nodes events)

-- the node at a place runs
abbrev pub Runs : List PlanNode → List Event → ℕ → Type 0
Runs nodes events place = (place < length nodes) × (state_after nodes events place ≡ Running)

-- the right reply to the question for the next node
abbrev pub IsStart : List PlanNode → ℕ → List Event → Result ℕ JobFault → Type 0
IsStart nodes slots events (Ok place) = (running_after nodes events ≢ slots) × IsLeastReady nodes events place
IsStart nodes slots events (Err NoSlot) = running_after nodes events ≡ slots
IsStart nodes slots events (Err NoneReady) = (running_after nodes events ≢ slots) × ((place : ℕ) → IsReady nodes events place → ⊥)
IsStart nodes slots events (Err NotRunning) = ⊥

-- the right reply to the report that the node at a place is completed or has failed
abbrev pub IsReportReply : List PlanNode → List Event → ℕ → Result ⊤ JobFault → Type 0
IsReportReply nodes events place (Ok accepted) = Runs nodes events place
IsReportReply nodes events place (Err NotRunning) = Runs nodes events place → ⊥
IsReportReply nodes events place (Err NoneReady) = ⊥
IsReportReply nodes events place (Err NoSlot) = ⊥

-- the event's reply is right after these events
abbrev pub IsRight : List PlanNode → ℕ → List Event → Event → Type 0
IsRight nodes slots events (starts reply) = IsStart nodes slots events reply
IsRight nodes slots events (completes place reply) = IsReportReply nodes events place reply
IsRight nodes slots events (fails place reply) = IsReportReply nodes events place reply

-- the reply of each event is right
abbrev pub IsHistory : List PlanNode → ℕ → List Event → Type 0
IsHistory nodes slots events = (front rest : List Event) (event : Event) → events ≡ front ++ event ∷ rest → IsRight nodes slots front event
