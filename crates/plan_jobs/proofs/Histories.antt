-- Shared: the laws of histories.
use Rattle.std.proofs.Common.{◌≡◌, ◌<◌, ◌≤◌, ◌+◌, ◌||◌, ◌⊎◌, inl, inr, ⊎_elim, ℕ, zero, suc, Bool, true, false, cond, List, [], ◌∷◌, ◌++◌, Result, Ok, Err, length, refl, sym, subst, ap, ◌∙◌, arith, append_assoc}
use Rattle.std.specs.Prelude.{⊤, count_by}
use Rattle.std.specs.List.{list_any}
use Rattle.std.proofs.lemmas.Bool.{cases_eq, cases_lt}
use Rattle.std.proofs.lemmas.List.Folds.{list_any_at}
use Rattle.std.proofs.lemmas.List.Sums.{sum_by_more_le}
use Rattle.common_laws.specs.Graphs.{IsPath, last, more}
use Rattle.plan_nodes.specs.declared.node.PlanNode.{PlanNode}
use Rattle.plan_jobs.specs.declared.job.JobFault.{JobFault}
use Rattle.plan_jobs.specs.declared.job.JobFault.TheVariants.{NoneReady, NoSlot, NotRunning}
use Rattle.plan_jobs.specs.declared.job.JobState.{JobState}
use Rattle.plan_jobs.specs.declared.job.JobState.TheVariants.{Waiting, Running, Completed, Failed}
use Rattle.plan_jobs.specs.Events.{Event, IsReportReply, IsHeld, IsHistory, IsReady, IsRight, IsStart, NeedsNode, Runs, completes, fails, starts, is_completion_of, is_failure_of, is_installed, is_running, is_start_of, node_at, running_after, state_after, state_by, states_after, lists_id}
use Rattle.plan_jobs.specs.Board.{is_begun, state_at}
use Rattle.plan_jobs.specs.Laws.{HasEnded, IsAtRest, KeepsHeld, StartsAfterNeeds, StartsNoneHeld, StartsOnce}
use Rattle.plan_jobs.proofs.Counts.{other_place, same_place}
use Rattle.plan_jobs.proofs.Changes.{runs_more}
use Rattle.plan_jobs.proofs.Begin.{first_states, none_run, wants_none}
use Rattle.plan_jobs.proofs.NextStates.{all_stay, completes_now, fails_now, one_changes, starts_now, state_in, states_count, stays_so}

true_or : (b : Bool) → (b ≡ true) ⊎ (b ≡ true → ⊥)
true_or true = inl refl
true_or false = inr (λ e. cc)

done_or : (s : JobState) → (s ≡ Completed) ⊎ (s ≡ Completed → ⊥)
done_or Waiting = inr (λ e. cc)
done_or Running = inr (λ e. cc)
done_or Completed = inl refl
done_or Failed = inr (λ e. cc)

append-nil : {X : Type 0} (xs : List X) → xs ++ [] ≡ xs
append-nil [] = refl
append-nil (x ∷ xs) = ap (λ l. x ∷ l) (append-nil xs)

-- the effect of one event on the states
data Change (nodes : List PlanNode) (slots : ℕ) (events : List Event) (event : Event) : Type 0 where
  quiet : ((place : ℕ) → state_after nodes (events ++ event ∷ []) place ≡ state_after nodes events place) → Change nodes slots events event
  begins : (place : ℕ) → IsReady nodes events place → (running_after nodes events ≡ slots → ⊥) → state_after nodes (events ++ event ∷ []) place ≡ Running
      → ((other : ℕ) → (other ≡ place → ⊥) → state_after nodes (events ++ event ∷ []) other ≡ state_after nodes events other) → Change nodes slots events event
  ends : (place : ℕ) (state : JobState) → Runs nodes events place → is_running state ≡ false → state_after nodes (events ++ event ∷ []) place ≡ state
      → ((other : ℕ) → (other ≡ place → ⊥) → state_after nodes (events ++ event ∷ []) other ≡ state_after nodes events other) → Change nodes slots events event

change : (nodes : List PlanNode) (slots : ℕ) (events : List Event) (event : Event) → IsRight nodes slots events event → Change nodes slots events event
change nodes slots events (starts (Ok place)) r =
    begins place r.1.ready r.0 (starts_now nodes events place r.1.ready.waits)
    (λ other n. stays_so nodes events (starts (Ok place)) other refl refl (other_place place other (λ e. n (sym e))))
change nodes slots events (starts (Err fault)) r = quiet (λ place. stays_so nodes events (starts (Err fault)) place refl refl refl)
change nodes slots events (completes place (Ok accepted)) r =
    ends place Completed r refl (completes_now nodes events place accepted r.1)
    (λ other n. stays_so nodes events (completes place (Ok accepted)) other refl (other_place place other (λ e. n (sym e))) refl)
change nodes slots events (completes place (Err fault)) r = quiet (λ other. stays_so nodes events (completes place (Err fault)) other refl refl refl)
change nodes slots events (fails place (Ok accepted)) r =
    ends place Failed r refl (fails_now nodes events place accepted)
    (λ other n. stays_so nodes events (fails place (Ok accepted)) other (other_place place other (λ e. n (sym e))) refl refl)
change nodes slots events (fails place (Err fault)) r = quiet (λ other. stays_so nodes events (fails place (Err fault)) other refl refl refl)

-- what holds at first and is kept by each right event holds after every history
along : (nodes : List PlanNode) (slots : ℕ) (P : List Event → Type 0)
    → ((front : List Event) (event : Event) → P front → IsRight nodes slots front event → P (front ++ event ∷ []))
    → (events front rest : List Event) → IsHistory nodes slots events → events ≡ front ++ rest → P front → P events
along nodes slots P step events front [] h e p = subst P (sym (e ∙ append-nil front)) p
along nodes slots P step events front (event ∷ rest) h e p =
    along nodes slots P step events (front ++ event ∷ []) rest h (e ∙ sym (append_assoc front (event ∷ []) rest)) (step front event p (h front rest event e))

-- a prefix of a history is a history
front_history : (nodes : List PlanNode) (slots : ℕ) (events front rest : List Event) → IsHistory nodes slots events → events ≡ front ++ rest → IsHistory nodes slots front
front_history nodes slots events front rest h e first more' event is =
    h first (more' ++ rest) event (e ∙ ap (λ l. l ++ rest) is ∙ append_assoc first (event ∷ more') rest)

different : (a b : JobState) → (a ≡ b → ⊥) → (nodes : List PlanNode) (events : List Event) (place other : ℕ) → state_after nodes events place ≡ a → state_after nodes events other ≡ b → other ≡ place → ⊥
different a b n nodes events place other x y e = n (sym x ∙ sym (ap (state_after nodes events) e) ∙ y)

-- nodes that run or are completed need only completed ones
abbrev IsMet : List PlanNode → List Event → Type 0
IsMet nodes events = (place need : ℕ) → NeedsNode nodes place need → is_begun (state_after nodes events place) ≡ true → state_after nodes events need ≡ Completed

met_stays : (nodes : List PlanNode) (slots : ℕ) (events : List Event) (event : Event) → IsMet nodes events → IsRight nodes slots events event → IsMet nodes (events ++ event ∷ [])
met_stays nodes slots events event m r user need n begun =
    elim (change nodes slots events event r) [
      | quiet same ↦ same need ∙ m user need n (ap is_begun (sym (same user)) ∙ begun)
      | begins place ready free now same ↦
          let done = λ (e : state_after nodes events need ≡ Completed). same need (different Waiting Completed (λ e. cc) nodes events place need ready.waits e) ∙ e in
          ⊎_elim
          (λ e. done (ready.met need (subst (λ u. NeedsNode nodes u need) e n)))
          (λ d. done (m user need n (ap is_begun (sym (same user d)) ∙ begun)))
          (cases_eq user place)
      | ends place state runs no_run now same ↦
          let done = λ (e : state_after nodes events need ≡ Completed). same need (different Running Completed (λ e. cc) nodes events place need runs.1 e) ∙ e in
          ⊎_elim
          (λ e. done (m user need n (ap (λ u. is_begun (state_after nodes events u)) e ∙ ap is_begun runs.1)))
          (λ d. done (m user need n (ap is_begun (sym (same user d)) ∙ begun)))
          (cases_eq user place)
    ]

not_begun : (a b : Bool) → is_begun (state_by a b false) ≡ true → b ≡ true
not_begun true b e = absurd (cc)
not_begun false true e = refl
not_begun false false e = absurd (cc)

or_last : (b : Bool) → b || false ≡ true → b ≡ true
or_last true e = refl
or_last false e = absurd (cc)

met_at_first : (nodes : List PlanNode) → IsMet nodes []
met_at_first nodes user need n begun =
    let node = node_at nodes user in
    absurd (wants_none node (node_at nodes need).id (or_last (is_installed node.kind) (not_begun (node.unbuildable || false) (is_installed node.kind || false) begun)) n.1)

met_always : (nodes : List PlanNode) (slots : ℕ) (events : List Event) → IsHistory nodes slots events → IsMet nodes events
met_always nodes slots events h = along nodes slots (IsMet nodes) (λ front event m r. met_stays nodes slots front event m r) events [] events h refl (met_at_first nodes)

begun_way : (nodes : List PlanNode) (events : List Event) → IsMet nodes events → (place need : ℕ) → is_begun (state_after nodes events place) ≡ true → IsPath (NeedsNode nodes) place need
    → state_after nodes events need ≡ Completed
begun_way nodes events m place need begun (last n) = m place need n begun
begun_way nodes events m place need begun (more {w = next} n p) = begun_way nodes events m next need (ap is_begun (m place next n begun)) p

-- from a ready node, paths lead only to completed ones
ready_way : (nodes : List PlanNode) (events : List Event) → IsMet nodes events → (place need : ℕ) → IsReady nodes events place → IsPath (NeedsNode nodes) place need
    → state_after nodes events need ≡ Completed
ready_way nodes events m place need ready (last n) = ready.met need n
ready_way nodes events m place need ready (more {w = next} n p) = begun_way nodes events m next need (ap is_begun (ready.met next n)) p

-- a node that is held isn't ready
not_both : (nodes : List PlanNode) (events : List Event) → IsMet nodes events → (place : ℕ) → IsReady nodes events place → IsHeld nodes events place → ⊥
not_both nodes events m place ready held = let wrong : Completed ≡ Failed = sym (ready_way nodes events m place held.need ready held.path) ∙ held.failed in cc

held_stays : (nodes : List PlanNode) (slots : ℕ) (events : List Event) (event : Event) (place : ℕ) → IsMet nodes events → IsHeld nodes events place → IsRight nodes slots events event
    → IsHeld nodes (events ++ event ∷ []) place
held_stays nodes slots events event place m held r =
    elim (change nodes slots events event r) [
      | quiet same ↦ record { waits = same place ∙ held.waits; need = held.need; path = held.path; failed = same held.need ∙ held.failed }
      | begins begun ready free now same ↦
          record {
            waits = same place (λ e. not_both nodes events m place (subst (λ k. IsReady nodes events k) (sym e) ready) held) ∙ held.waits;
            need = held.need;
            path = held.path;
            failed = same held.need (different Waiting Failed (λ e. cc) nodes events begun held.need ready.waits held.failed) ∙ held.failed;
          }
      | ends ended state runs no_run now same ↦
          record {
            waits = same place (different Running Waiting (λ e. cc) nodes events ended place runs.1 held.waits) ∙ held.waits;
            need = held.need;
            path = held.path;
            failed = same held.need (different Running Failed (λ e. cc) nodes events ended held.need runs.1 held.failed) ∙ held.failed;
          }
    ]

pub none_held_starts : (nodes : List PlanNode) (slots : ℕ) (events : List Event) → IsHistory nodes slots events → StartsNoneHeld nodes events
none_held_starts nodes slots events h front place s held =
    let right = h front s.0 (starts (Ok place)) s.1 in
    not_both nodes front (met_always nodes slots front (front_history nodes slots events front (starts (Ok place) ∷ s.0) h s.1)) place right.1.ready held

pub keeps_held : (nodes : List PlanNode) (slots : ℕ) (events : List Event) → IsHistory nodes slots events → KeepsHeld nodes events
keeps_held nodes slots events h front rest place e held =
    (along nodes slots (λ l. IsMet nodes l × IsHeld nodes l place)
    (λ l event p r. (met_stays nodes slots l event p.0 r, held_stays nodes slots l event place p.0 p.1 r)) events front rest h e
    (met_always nodes slots front (front_history nodes slots events front rest h e), held)).1

pub after_needs : (nodes : List PlanNode) (slots : ℕ) (events : List Event) → IsHistory nodes slots events → StartsAfterNeeds nodes events
after_needs nodes slots events h front place need s n = (h front s.0 (starts (Ok place)) s.1).1.ready.met need n

not_waiting : (a b : Bool) → state_by a b true ≡ Waiting → ⊥
not_waiting true b e = cc
not_waiting false true e = cc
not_waiting false false e = cc

pub once : (nodes : List PlanNode) (slots : ℕ) (events : List Event) → IsHistory nodes slots events → StartsOnce events
once nodes slots events h front place s c =
    let waits = (h front s.0 (starts (Ok place)) s.1).1.ready.waits in
    let any : list_any (is_start_of place) front ≡ true =
    list_any_at (is_start_of place) front c.0 (starts (Ok place)) c.1 (ap (is_start_of place) c.2 ∙ same_place place place refl) in
    let node = node_at nodes place in
    not_waiting (node.unbuildable || list_any (is_failure_of place) front) (is_installed node.kind || list_any (is_completion_of place) front)
    (ap (λ b. state_by (node.unbuildable || list_any (is_failure_of place) front) (is_installed node.kind || list_any (is_completion_of place) front) b) (sym any) ∙ waits)

runs_after : (nodes : List PlanNode) (events : List Event) (event : Event) (place : ℕ) (state : JobState) → place < length nodes → state_after nodes (events ++ event ∷ []) place ≡ state
    → ((other : ℕ) → (other ≡ place → ⊥) → state_after nodes (events ++ event ∷ []) other ≡ state_after nodes events other)
    → running_after nodes (events ++ event ∷ []) + cond (is_running (state_after nodes events place)) 1 0 ≡ running_after nodes events + cond (is_running state) 1 0
runs_after nodes events event place state lt now same =
    let count = states_count nodes events in
    let e = one_changes nodes events event place state lt now same in
    let n = runs_more (states_after nodes events) place state (omega (arith, lt, count)) in
    subst (λ s. running_after nodes (events ++ event ∷ []) + cond (is_running s) 1 0 ≡ running_after nodes events + cond (is_running state) 1 0) (state_in nodes events place lt)
    (ap (λ l. count_by is_running l + cond (is_running (state_at (states_after nodes events) place)) 1 0) e ∙ n)

few_stay : (nodes : List PlanNode) (slots : ℕ) (events : List Event) (event : Event) → running_after nodes events ≤ slots → IsRight nodes slots events event
    → running_after nodes (events ++ event ∷ []) ≤ slots
few_stay nodes slots events event few r =
    elim (change nodes slots events event r) [
      | quiet same ↦ subst (λ l. count_by is_running l ≤ slots) (sym (all_stay nodes events event same)) few
      | begins place ready free now same ↦
          let n = runs_after nodes events event place Running ready.node now same in
          let m : running_after nodes (events ++ event ∷ []) + 0 ≡ running_after nodes events + 1 =
          subst (λ s. running_after nodes (events ++ event ∷ []) + cond (is_running s) 1 0 ≡ running_after nodes events + 1) ready.waits n in
          omega (arith, m, few, free)
      | ends place state runs no_run now same ↦
          let n = runs_after nodes events event place state runs.0 now same in
          let m : running_after nodes (events ++ event ∷ []) + cond (is_running (state_after nodes events place)) 1 0 ≡ running_after nodes events + 0 =
          subst (λ b. running_after nodes (events ++ event ∷ []) + cond (is_running (state_after nodes events place)) 1 0 ≡ running_after nodes events + cond b 1 0) no_run n in
          omega (arith, m, few)
    ]

none_at_first : (nodes : List PlanNode) → running_after nodes [] ≡ 0
none_at_first nodes = ap (count_by is_running) (sym (first_states nodes)) ∙ none_run nodes

pub few_run : (nodes : List PlanNode) (slots : ℕ) (events : List Event) → IsHistory nodes slots events → running_after nodes events ≤ slots
few_run nodes slots events h =
    along nodes slots (λ l. running_after nodes l ≤ slots) (λ front event few r. few_stay nodes slots front event few r) events [] events h refl
    (let e = none_at_first nodes in omega (arith, e))

abbrev one_if : JobState → ℕ
one_if state = cond (is_running state) 1 0

-- if the count of running nodes is 0, no node runs
none_does : (nodes : List PlanNode) (events : List Event) → running_after nodes events ≡ 0 → (place : ℕ) → place < length nodes → state_after nodes events place ≡ Running → ⊥
none_does nodes events none place lt e =
    let count = states_count nodes events in
    let n = sum_by_more_le one_if (states_after nodes events) place Waiting (omega (arith, lt, count)) in
    let one : one_if (state_at (states_after nodes events) place) ≡ 1 = ap one_if (state_in nodes events place lt ∙ e) in
    omega (arith, n, one, none)

module _ (nodes : List PlanNode) (events : List Event) (rest : IsAtRest nodes events) where
  -- either all needs below a place are completed, or one isn't
  scan : (place k : ℕ) → k ≤ place
      → ((need : ℕ) → need < k → NeedsNode nodes place need → state_after nodes events need ≡ Completed) ⊎ ((need : ℕ) × NeedsNode nodes place need × (state_after nodes events need ≡ Completed → ⊥))
  scan place zero le = inl (λ need lt n. absurd (omega (arith, lt)))
  scan place (suc k) le =
      ⊎_elim
      (λ all. ⊎_elim
      (λ done. inl (λ need lt n. ⊎_elim (λ less. all need less n) (λ ge. let e : k ≡ need = omega (arith, lt, ge) in subst (λ m. state_after nodes events m ≡ Completed) e done) (cases_lt need k)))
      (λ not_done. ⊎_elim
      (λ listed_places. inr (k, (omega (arith, le), listed_places), not_done))
      (λ not_wanted. inl (λ need lt n. ⊎_elim (λ less. all need less n)
      (λ ge. let e : need ≡ k = omega (arith, lt, ge) in absurd (not_wanted (subst (λ m. lists_id (node_at nodes place) (node_at nodes m).id ≡ true) e n.1))) (cases_lt need k)))
      (true_or (lists_id (node_at nodes place) (node_at nodes k).id)))
      (done_or (state_after nodes events k)))
      (λ found. inr found)
      (scan place k (omega (arith, le)))

  ended_below : (bound place : ℕ) → place < bound → place < length nodes → HasEnded nodes events place
  ended_below zero place lt within = absurd (omega (arith, lt))
  ended_below (suc bound) place lt within =
      elim (state_after nodes events place) as (λ s. state_after nodes events place ≡ s → HasEnded nodes events place) [
        | Waiting ↦ λ e. inr (inr (⊎_elim
            (λ all. absurd (rest.none_ready place (record { node = within; waits = e; met = λ need n. all need n.0 n })))
            (λ found.
            let less = found.1.0 in
            ⊎_elim
            (λ done. absurd (found.2 done))
            (λ r. ⊎_elim
            (λ failed. record { waits = e; need = found.0; path = last found.1; failed = failed })
            (λ held. record { waits = e; need = held.need; path = more found.1 held.path; failed = held.failed })
            r)
            (ended_below bound found.0 (omega (arith, less, lt)) (omega (arith, less, within))))
            (scan place place (omega arith))))
        | Running ↦ λ e. absurd (none_does nodes events rest.none_runs place within e)
        | Completed ↦ λ e. inl e
        | Failed ↦ λ e. inr (inl e)
      ] refl

  pub all_ended : (place : ℕ) → place < length nodes → HasEnded nodes events place
  all_ended place lt = ended_below (length nodes) place lt lt

pub one_start : (nodes : List PlanNode) (slots : ℕ) (events : List Event) (a b : Result ℕ JobFault) → IsStart nodes slots events a → IsStart nodes slots events b → a ≡ b
one_start nodes slots events (Ok a) (Ok b) x y =
    let l = x.1.least b y.1.ready in let m = y.1.least a x.1.ready in ap Ok (omega (arith, l, m))
one_start nodes slots events (Ok a) (Err NoSlot) x y = absurd (x.0 y)
one_start nodes slots events (Ok a) (Err NoneReady) x y = absurd (y.1 a x.1.ready)
one_start nodes slots events (Ok a) (Err NotRunning) x y = absurd y
one_start nodes slots events (Err NoSlot) (Ok b) x y = absurd (y.0 x)
one_start nodes slots events (Err NoSlot) (Err NoSlot) x y = refl
one_start nodes slots events (Err NoSlot) (Err NoneReady) x y = absurd (y.0 x)
one_start nodes slots events (Err NoSlot) (Err NotRunning) x y = absurd y
one_start nodes slots events (Err NoneReady) (Ok b) x y = absurd (x.1 b y.1.ready)
one_start nodes slots events (Err NoneReady) (Err NoSlot) x y = absurd (x.0 y)
one_start nodes slots events (Err NoneReady) (Err NoneReady) x y = refl
one_start nodes slots events (Err NoneReady) (Err NotRunning) x y = absurd y
one_start nodes slots events (Err NotRunning) b x y = absurd x

pub one_end : (nodes : List PlanNode) (events : List Event) (place : ℕ) (a b : Result ⊤ JobFault) → IsReportReply nodes events place a → IsReportReply nodes events place b → a ≡ b
one_end nodes events place (Ok a) (Ok b) x y = refl
one_end nodes events place (Ok a) (Err NotRunning) x y = absurd (y x)
one_end nodes events place (Ok a) (Err NoneReady) x y = absurd y
one_end nodes events place (Ok a) (Err NoSlot) x y = absurd y
one_end nodes events place (Err NotRunning) (Ok b) x y = absurd (x y)
one_end nodes events place (Err NotRunning) (Err NotRunning) x y = refl
one_end nodes events place (Err NotRunning) (Err NoneReady) x y = absurd y
one_end nodes events place (Err NotRunning) (Err NoSlot) x y = absurd y
one_end nodes events place (Err NoneReady) b x y = absurd x
one_end nodes events place (Err NoSlot) b x y = absurd x
