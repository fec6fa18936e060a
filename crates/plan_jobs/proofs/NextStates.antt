-- Shared: the states after one more event.
use Rattle.std.proofs.Common.{◌≡◌, ◌<◌, ◌||◌, ◌⊎◌, ⊎_elim, ℕ, Bool, true, false, List, [], ◌∷◌, ◌++◌, Ok, Err, length, set, refl, sym, subst, ap, ◌∙◌, arith, length-append}
use Rattle.std.specs.Prelude.{⊤, Result, IsErrAnd, count_by}
use Rattle.std.specs.List.{list_any}
use Rattle.std.proofs.lemmas.Bool.{cases_eq}
use Rattle.std.proofs.lemmas.List.{length-set, ext_get_or}
use Rattle.std.proofs.lemmas.Result.{err_from_is_err_and}
use Rattle.std.proofs.lemmas.List.FromFn.{length-map-range_with_len, get_or-map-range_with_len}
use Rattle.std.proofs.lemmas.List.Folds.{list_any-append}
use Rattle.common_laws.specs.Lists.{push_split}
use Rattle.plan_nodes.specs.declared.node.PlanNode.{PlanNode}
use Rattle.plan_jobs.specs.declared.job.JobFault.{JobFault}
use Rattle.plan_jobs.specs.declared.job.JobFault.TheVariants.{NotRunning}
use Rattle.plan_jobs.specs.declared.job.JobState.{JobState}
use Rattle.plan_jobs.specs.declared.job.JobState.TheVariants.{Waiting, Running, Completed, Failed}
use Rattle.plan_jobs.specs.Events.{Event, IsReportReply, IsHistory, IsRight, IsStart, Runs, completes, fails, starts, is_completion_of, is_failure_of, is_installed, is_running, is_start_of, node_at, running_after, state_after, state_by, states_after}
use Rattle.plan_jobs.specs.Board.{AreAfter, Board, state_at}
use Rattle.plan_jobs.proofs.Counts.{other_place, same_place}
use Rattle.plan_jobs.proofs.Changes.{state_here, state_there}

-- a test of one more event
or_none : (a b : Bool) → a || (b || (false || false)) ≡ a || b
or_none true b = refl
or_none false true = refl
or_none false false = refl

or_some : (a b : Bool) → a || (b || (true || false)) ≡ true
or_some true b = refl
or_some false true = refl
or_some false false = refl

any_none : (test : Event → Bool) (events : List Event) (event : Event) (a : Bool) → test event ≡ false → a || list_any test (events ++ event ∷ []) ≡ a || list_any test events
any_none test events event a e =
    ap (λ b. a || b) (list_any-append test events (event ∷ [])) ∙ ap (λ t. a || (list_any test events || (t || false))) e ∙ or_none a (list_any test events)

any_some : (test : Event → Bool) (events : List Event) (event : Event) (a : Bool) → test event ≡ true → a || list_any test (events ++ event ∷ []) ≡ true
any_some test events event a e =
    ap (λ b. a || b) (list_any-append test events (event ∷ [])) ∙ ap (λ t. a || (list_any test events || (t || false))) e ∙ or_some a (list_any test events)

module _ (nodes : List PlanNode) (events : List Event) where
  abbrev broken : ℕ → Bool
  broken place = (node_at nodes place).unbuildable || list_any (is_failure_of place) events

  abbrev there : ℕ → Bool
  there place = is_installed (node_at nodes place).kind || list_any (is_completion_of place) events

  abbrev begun : ℕ → Bool
  begun place = list_any (is_start_of place) events

  -- an event about other nodes leaves the state of a node
  pub stays_so : (event : Event) (place : ℕ) → is_failure_of place event ≡ false → is_completion_of place event ≡ false → is_start_of place event ≡ false
      → state_after nodes (events ++ event ∷ []) place ≡ state_after nodes events place
  stays_so event place f c s =
      ap (λ x. state_by x ((is_installed (node_at nodes place).kind) || list_any (is_completion_of place) (events ++ event ∷ [])) (list_any (is_start_of place) (events ++ event ∷ [])))
      (any_none (is_failure_of place) events event (node_at nodes place).unbuildable f)
      ∙ ap (λ y. state_by (broken place) y (list_any (is_start_of place) (events ++ event ∷ []))) (any_none (is_completion_of place) events event (is_installed (node_at nodes place).kind) c)
      ∙ ap (λ z. state_by (broken place) (there place) z) (any_none (is_start_of place) events event false s)

  by_start : (x y z : Bool) → state_by x y z ≡ Waiting → state_by x y true ≡ Running
  by_start true y z e = absurd (cc)
  by_start false true z e = absurd (cc)
  by_start false false z e = refl

  by_completion : (x y z : Bool) → state_by x y z ≡ Running → state_by x true z ≡ Completed
  by_completion true y z e = absurd (cc)
  by_completion false y z e = refl

  pub starts_now : (place : ℕ) → state_after nodes events place ≡ Waiting → state_after nodes (events ++ starts (Ok place) ∷ []) place ≡ Running
  starts_now place e =
      ap (λ x. state_by x ((is_installed (node_at nodes place).kind) || list_any (is_completion_of place) (events ++ starts (Ok place) ∷ [])) (list_any (is_start_of place) (events ++ starts (Ok place) ∷ [])))
      (any_none (is_failure_of place) events (starts (Ok place)) (node_at nodes place).unbuildable refl)
      ∙ ap (λ y. state_by (broken place) y (list_any (is_start_of place) (events ++ starts (Ok place) ∷ []))) (any_none (is_completion_of place) events (starts (Ok place)) (is_installed (node_at nodes place).kind) refl)
      ∙ ap (λ z. state_by (broken place) (there place) z) (any_some (is_start_of place) events (starts (Ok place)) false (same_place place place refl))
      ∙ by_start (broken place) (there place) (begun place) e

  pub completes_now : (place : ℕ) (accepted : ⊤) → state_after nodes events place ≡ Running → state_after nodes (events ++ completes place (Ok accepted) ∷ []) place ≡ Completed
  completes_now place accepted e =
      let event = completes place (Ok accepted) in
      ap (λ x. state_by x ((is_installed (node_at nodes place).kind) || list_any (is_completion_of place) (events ++ event ∷ [])) (list_any (is_start_of place) (events ++ event ∷ [])))
      (any_none (is_failure_of place) events event (node_at nodes place).unbuildable refl)
      ∙ ap (λ y. state_by (broken place) y (list_any (is_start_of place) (events ++ event ∷ []))) (any_some (is_completion_of place) events event (is_installed (node_at nodes place).kind) (same_place place place refl))
      ∙ ap (λ z. state_by (broken place) true z) (any_none (is_start_of place) events event false refl)
      ∙ by_completion (broken place) (there place) (begun place) e

  pub fails_now : (place : ℕ) (accepted : ⊤) → state_after nodes (events ++ fails place (Ok accepted) ∷ []) place ≡ Failed
  fails_now place accepted =
      let event = fails place (Ok accepted) in
      ap (λ x. state_by x ((is_installed (node_at nodes place).kind) || list_any (is_completion_of place) (events ++ event ∷ [])) (list_any (is_start_of place) (events ++ event ∷ [])))
      (any_some (is_failure_of place) events event (node_at nodes place).unbuildable (same_place place place refl))

  -- the state of each node, looked up in the list
  pub state_in : (place : ℕ) → place < length nodes → state_at (states_after nodes events) place ≡ state_after nodes events place
  state_in place lt = get_or-map-range_with_len (state_after nodes events) 0 (length nodes) place place Waiting lt (omega arith)

  pub states_count : length (states_after nodes events) ≡ length nodes
  states_count = length-map-range_with_len (state_after nodes events) 0 (length nodes)

pub all_stay : (nodes : List PlanNode) (events : List Event) (event : Event) → ((place : ℕ) → state_after nodes (events ++ event ∷ []) place ≡ state_after nodes events place)
    → states_after nodes (events ++ event ∷ []) ≡ states_after nodes events
all_stay nodes events event same =
    let more_events = events ++ event ∷ [] in
    let count = states_count nodes more_events in
    ext_get_or Waiting (states_after nodes more_events) (states_after nodes events) (count ∙ sym (states_count nodes events))
    (λ i lt. let in_nodes = subst (λ n. i < n) count lt in state_in nodes more_events i in_nodes ∙ same i ∙ sym (state_in nodes events i in_nodes))

pub one_changes : (nodes : List PlanNode) (events : List Event) (event : Event) (place : ℕ) (state : JobState) → place < length nodes
    → state_after nodes (events ++ event ∷ []) place ≡ state
    → ((other : ℕ) → (other ≡ place → ⊥) → state_after nodes (events ++ event ∷ []) other ≡ state_after nodes events other)
    → states_after nodes (events ++ event ∷ []) ≡ set (states_after nodes events) place state
one_changes nodes events event place state lt now same =
    let more_events = events ++ event ∷ [] in
    let count = states_count nodes more_events in
    let old = states_count nodes events in
    let in_old : place < length (states_after nodes events) = omega (arith, lt, old) in
    ext_get_or Waiting (states_after nodes more_events) (set (states_after nodes events) place state) (count ∙ sym old ∙ sym (length-set (states_after nodes events) place state))
    (λ i l. let in_nodes = subst (λ n. i < n) count l in
    state_in nodes more_events i in_nodes ∙ ⊎_elim
    (λ e. subst (λ k. state_after nodes more_events k ≡ state_at (set (states_after nodes events) place state) k) (sym e) (now ∙ sym (state_here (states_after nodes events) place state in_old)))
    (λ d. same i d ∙ sym (state_in nodes events i in_nodes) ∙ sym (state_there (states_after nodes events) place i state d))
    (cases_eq i place))

pub history_begins : (nodes : List PlanNode) (slots : ℕ) → IsHistory nodes slots []
history_begins nodes slots front rest event e = absurd (omega (arith, ap length e, length-append front (event ∷ rest)))

pub history_goes : (nodes : List PlanNode) (slots : ℕ) (events : List Event) (event : Event) → IsHistory nodes slots events → IsRight nodes slots events event → IsHistory nodes slots (events ++ event ∷ [])
history_goes nodes slots events event h r front rest other e = ⊎_elim
    (λ b. subst (λ f. IsRight nodes slots f other) (sym b.0) (subst (λ o. IsRight nodes slots events o) (sym b.1) r))
    (λ b. h front b.0 other b.1)
    (push_split front events rest other event e)

-- the board with another state of a node
abbrev pub with_state : Board → ℕ → JobState → Board
with_state board place state = record { users = board.users; states = set board.states place state; slots = board.slots }

-- the same, where the states and the place were read from the board
pub state_set : (inside board : Board) (new : List JobState) (found place : ℕ) (state : JobState) → inside ≡ board → new ≡ set inside.states found state → found ≡ place
    → record { users = inside.users; states = new; slots = inside.slots } ≡ with_state board place state
state_set inside board new found place state is new_is found_is =
    (λ i. record { users = inside.users; states = new_is i; slots = inside.slots }) ∙ (λ i. with_state (is i) (found_is i) state)

abbrev IsRunningAt : ℕ → List JobState → Type 0
IsRunningAt place states = (place < length states) × (state_at states place ≡ Running)

module _ (nodes : List PlanNode) (slots : ℕ) (events : List Event) (board : Board) (a : AreAfter nodes slots events board) where
  pub after_count : length board.states ≡ length nodes
  after_count = ap length a.states ∙ states_count nodes events

  pub after_state : (place : ℕ) → place < length nodes → state_at board.states place ≡ state_after nodes events place
  after_state place lt = ap (λ s. state_at s place) a.states ∙ state_in nodes events place lt

  pub after_running : count_by is_running board.states ≡ running_after nodes events
  after_running = ap (count_by is_running) a.states

  pub after_quiet : (event : Event) → IsRight nodes slots events event → ((place : ℕ) → state_after nodes (events ++ event ∷ []) place ≡ state_after nodes events place)
      → AreAfter nodes slots (events ++ event ∷ []) board
  after_quiet event r same =
      record {
        history = history_goes nodes slots events event a.history r;
        users = a.users;
        states = a.states ∙ sym (all_stay nodes events event same);
        limit = a.limit;
      }

  pub after_change : (event : Event) (place : ℕ) (state : JobState) (after : Board) → after ≡ with_state board place state → IsRight nodes slots events event → place < length nodes → state_after nodes (events ++ event ∷ []) place ≡ state
      → ((other : ℕ) → (other ≡ place → ⊥) → state_after nodes (events ++ event ∷ []) other ≡ state_after nodes events other)
      → AreAfter nodes slots (events ++ event ∷ []) after
  after_change event place state after is r lt now same =
      subst (AreAfter nodes slots (events ++ event ∷ [])) (sym is) (record {
        history = history_goes nodes slots events event a.history r;
        users = a.users;
        states = ap (λ s. set s place state) a.states ∙ sym (one_changes nodes events event place state lt now same);
        limit = a.limit;
      })

  -- refusals
  pub after_no_start : (fault : JobFault) → IsStart nodes slots events (Err fault) → AreAfter nodes slots (events ++ starts (Err fault) ∷ []) board
  after_no_start fault r = after_quiet (starts (Err fault)) r (λ place. stays_so nodes events (starts (Err fault)) place refl refl refl)

  pub after_no_completion : (place : ℕ) (fault : JobFault) (reply : Result ⊤ JobFault) → IsErrAnd reply (λ f. f ≡ fault) → IsReportReply nodes events place reply
      → AreAfter nodes slots (events ++ completes place reply ∷ []) board
  after_no_completion place fault (Ok accepted) e r = absurd e
  after_no_completion place fault (Err found) e r = after_quiet (completes place (Err found)) r (λ other. stays_so nodes events (completes place (Err found)) other refl refl refl)

  pub after_no_failure : (place : ℕ) (fault : JobFault) (reply : Result ⊤ JobFault) → IsErrAnd reply (λ f. f ≡ fault) → IsReportReply nodes events place reply
      → AreAfter nodes slots (events ++ fails place reply ∷ []) board
  after_no_failure place fault (Ok accepted) e r = absurd e
  after_no_failure place fault (Err found) e r = after_quiet (fails place (Err found)) r (λ other. stays_so nodes events (fails place (Err found)) other refl refl refl)

  pub after_start : (place : ℕ) → IsStart nodes slots events (Ok place) → AreAfter nodes slots (events ++ starts (Ok place) ∷ []) (with_state board place Running)
  after_start place r =
      after_change (starts (Ok place)) place Running _ refl r r.1.ready.node (starts_now nodes events place r.1.ready.waits)
      (λ other n. stays_so nodes events (starts (Ok place)) other refl refl (other_place place other (λ e. n (sym e))))

  pub after_completion : (place : ℕ) (accepted : ⊤) (after : Board) → after ≡ with_state board place Completed → Runs nodes events place
      → AreAfter nodes slots (events ++ completes place (Ok accepted) ∷ []) after
  after_completion place accepted after is r =
      after_change (completes place (Ok accepted)) place Completed after is r r.0 (completes_now nodes events place accepted r.1)
      (λ other n. stays_so nodes events (completes place (Ok accepted)) other refl (other_place place other (λ e. n (sym e))) refl)

  pub after_failure : (place : ℕ) (accepted : ⊤) (after : Board) → after ≡ with_state board place Failed → Runs nodes events place
      → AreAfter nodes slots (events ++ fails place (Ok accepted) ∷ []) after
  after_failure place accepted after is r =
      after_change (fails place (Ok accepted)) place Failed after is r r.0 (fails_now nodes events place accepted)
      (λ other n. stays_so nodes events (fails place (Ok accepted)) other (other_place place other (λ e. n (sym e))) refl refl)

  -- running nodes
  pub runs_from : (place : ℕ) → (place < length board.states) × (state_at board.states place ≡ Running) → Runs nodes events place
  runs_from place r = let lt = subst (λ n. place < n) after_count r.0 in (lt, sym (after_state place lt) ∙ r.1)

  pub runs_to : (place : ℕ) → Runs nodes events place → (place < length board.states) × (state_at board.states place ≡ Running)
  runs_to place r = (subst (λ n. place < n) (sym after_count) r.0, after_state place r.0 ∙ r.1)

  -- the reply about a node, where its state was read from the board's states
  pub accepted : (place : ℕ) (seen : List JobState) → seen ≡ board.states → (place < length seen) × (state_at seen place ≡ Running) → Runs nodes events place
  accepted place seen same found = runs_from place (subst (IsRunningAt place) same found)

  pub refused : (place : ℕ) (seen : List JobState) (fault : JobFault) (reply : Result ⊤ JobFault) → seen ≡ board.states → (fault ≡ NotRunning) × (IsRunningAt place seen → ⊥)
      → IsErrAnd reply (λ f. f ≡ fault) → IsReportReply nodes events place reply
  refused place seen fault reply same found e =
      let told = err_from_is_err_and reply e in
      subst (IsReportReply nodes events place) (sym (told.1 ∙ ap Err (told.2 ∙ found.0))) (λ runs. found.1 (subst (IsRunningAt place) (sym same) (runs_to place runs)))
