-- What contracts see of jobs: the users and the state of each node, the slots, and the marks.
use Rattle.std.specs.Prelude.{◌≡◌, ◌<◌, ◌≤◌, ◌+◌, ◌*◌, ◌==◌, ◌↔◌, ◌⊎◌, ℕ, Bool, true, false, not, if◌then◌else◌, List, [], ◌∷◌, ◌++◌, length, count_by, slice_index, slice_index_or, slice_set, Contains}
use Rattle.common_laws.specs.Graphs.{IsMarked, IsPath}
use Rattle.plan_nodes.specs.declared.node.PlanNode.{PlanNode}
use Rattle.plan_jobs.specs.declared.job.JobState.{JobState}
use Rattle.plan_jobs.specs.declared.job.JobState.TheVariants.{Waiting, Running, Completed, Failed}
use Rattle.plan_jobs.specs.Marks.{NoneMarked}
use Rattle.plan_jobs.specs.Events.{Event, IsHistory, NeedsNode, is_running, states_after}

-- the users of each node, its state, and the number of slots
pub record Board : Type 0 where
  pub users : List (List ℕ)
  pub states : List JobState
  pub slots : ℕ

-- user is a user of the node at place
abbrev pub IsUser : List (List ℕ) → ℕ → ℕ → Type 0
IsUser users user place = Contains (slice_index_or users place []) user

-- the board of these nodes and slots after these events, which all have right replies
pub record AreAfter (nodes : List PlanNode) (slots : ℕ) (events : List Event) (board : Board) : Type 0 where
  pub history : IsHistory nodes slots events
  pub users : (user place : ℕ) → IsUser board.users user place ↔ NeedsNode nodes user place
  pub states : board.states ≡ states_after nodes events
  pub limit : board.slots ≡ slots

-- the property holds of all nodes, slots and events that lead to this board
abbrev pub ForItsEvents : Board → (List PlanNode → ℕ → List Event → Type 0) → Type 0
ForItsEvents board Holds = (nodes : List PlanNode) (slots : ℕ) (events : List Event) → AreAfter nodes slots events board → Holds nodes slots events

abbrev pub state_at : List JobState → ℕ → JobState
state_at states place = slice_index_or states place Waiting

abbrev pub is_completed : JobState → Bool
is_completed Waiting = false
is_completed Running = false
is_completed Completed = true
is_completed Failed = false

-- whether a node isn't completed
abbrev pub is_open : List JobState → ℕ → Bool
is_open states place = not (is_completed (state_at states place))

-- how often a node occurs in a list
abbrev pub times : ℕ → List ℕ → ℕ
times place places = count_by (λ other. other == place) places

-- how many needs of a node aren't completed, each counted as often as it is listed
abbrev pub open_needs : List (List ℕ) → List JobState → ℕ → ℕ
open_needs [] states user = 0
open_needs (list ∷ users) [] user = 0
open_needs (list ∷ users) (state ∷ states) user = (if is_completed state then 0 else times user list) + open_needs users states user

-- a node is added to the users of these places
abbrev pub with_user : ℕ → List (List ℕ) → List ℕ → List (List ℕ)
with_user user users [] = users
with_user user users (place ∷ places) = with_user user (slice_set users place (slice_index_or users place [] ++ user ∷ [])) places

-- a node is marked iff it waits and all its needs are completed
abbrev pub AreReady : List JobState → List ℕ → List Bool → Type 0
AreReady states unmet marks = (place : ℕ) → IsMarked marks place ↔ (place < length states) × (state_at states place ≡ Waiting) × (slice_index unmet place ≡ 0)

-- a path through needs from one node to another
abbrev pub Leads : List (List ℕ) → ℕ → ℕ → Type 0
Leads users = IsPath (IsUser users)

-- the waiting users of a node are marked, and so are those of each newly marked node
pub record MarksMore (users : List (List ℕ)) (states : List JobState) (place : ℕ) (old new : List Bool) : Type 0 where
  pub same : length new ≡ length old
  pub stays : (user : ℕ) → IsMarked old user → IsMarked new user
  pub found : (user : ℕ) → IsMarked new user → IsMarked old user ⊎ ((state_at states user ≡ Waiting) × Leads users user place)
  pub closed : (user need : ℕ) → IsUser users user need → state_at states user ≡ Waiting
      → (need ≡ place) ⊎ (IsMarked new need × (IsMarked old need → ⊥)) → IsMarked new user

-- the waiting nodes of a list are marked, and the newly marked ones are put to the work
pub record MarksUsers (list : List ℕ) (states : List JobState) (old new old_work new_work : List Bool) : Type 0 where
  pub same : length new ≡ length old
  pub room : length new_work ≡ length old_work
  pub stays : (user : ℕ) → IsMarked old user → IsMarked new user
  pub found : (user : ℕ) → IsMarked new user → IsMarked old user ⊎ ((state_at states user ≡ Waiting) × Contains list user)
  pub closed : (user : ℕ) → Contains list user → state_at states user ≡ Waiting → IsMarked new user
  pub work : (user : ℕ) → IsMarked new_work user ↔ IsMarked old_work user ⊎ (IsMarked new user × (IsMarked old user → ⊥))
  pub fewer : 2 * count_by not new + count_by (λ mark. mark) new_work ≤ 2 * count_by not old + count_by (λ mark. mark) old_work

-- a node waits, and needs a broken one, directly or through others
pub record IsHeldBack (users : List (List ℕ)) (states : List JobState) (Broken : ℕ → Type 0) (place : ℕ) : Type 0 where
  pub waits : state_at states place ≡ Waiting
  pub need : ℕ
  pub path : Leads users place need
  pub broken : Broken need

-- marked nodes are held back, and each waiting user of a broken or a marked node is marked
pub record AreHeld (users : List (List ℕ)) (states : List JobState) (Broken : ℕ → Type 0) (held : List Bool) : Type 0 where
  pub count : length held ≡ length states
  pub sound : (place : ℕ) → IsMarked held place → IsHeldBack users states Broken place
  pub closed : (user need : ℕ) → IsUser users user need → state_at states user ≡ Waiting → Broken need ⊎ IsMarked held need → IsMarked held user

-- whether the node at a place has failed
abbrev pub HasFailed : List JobState → ℕ → Type 0
HasFailed states place = state_at states place ≡ Failed

-- whether a node runs or is completed
abbrev pub is_begun : JobState → Bool
is_begun Waiting = false
is_begun Running = true
is_begun Completed = true
is_begun Failed = false

-- users are nodes, and nodes that run or are completed need only completed ones
pub record AreBegun (users : List (List ℕ)) (states : List JobState) : Type 0 where
  pub count : length users ≡ length states
  pub within : (user place : ℕ) → IsUser users user place → user < length states
  pub met : (user place : ℕ) → IsUser users user place → is_begun (state_at states user) ≡ true → state_at states place ≡ Completed

-- the counts of each node's needs that aren't completed
pub record AreCounts (users : List (List ℕ)) (states : List JobState) (unmet : List ℕ) : Type 0 where
  pub count : length unmet ≡ length states
  pub each : (place : ℕ) → place < length states → slice_index unmet place ≡ open_needs users states place

-- the invariant between two events
pub record Keeps (users : List (List ℕ)) (states : List JobState) (unmet : List ℕ) (ready held to_hold : List Bool) (running slots : ℕ) : Type 0 where
  pub begun : AreBegun users states
  pub counts : AreCounts users states unmet
  pub room : length states ≤ length ready
  pub first : AreReady states unmet ready
  pub holds : AreHeld users states (HasFailed states) held
  pub space : length states ≤ length to_hold
  pub idle : NoneMarked to_hold
  pub run : running ≡ count_by is_running states
  pub few : running ≤ slots
