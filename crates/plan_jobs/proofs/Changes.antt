-- The invariant, when one node gets another state.
use Rattle.std.proofs.Common.{◌≡◌, ◌<◌, ◌≤◌, ◌+◌, ◌-◌, inl, inr, ⊎_elim, ℕ, zero, suc, Bool, true, false, cond, List, [], ◌∷◌, length, get_or, set, refl, sym, subst, ap, ◌∙◌, arith}
use Rattle.std.specs.Prelude.{count_by, slice_index}
use Rattle.std.proofs.lemmas.Bool.{cases_eq, cases_lt}
use Rattle.std.proofs.lemmas.List.{get_or-set_same, get_or-set_other, length-set}
use Rattle.std.proofs.lemmas.List.Sums.{sum_by-set}
use Rattle.common_laws.specs.Graphs.{IsMarked, last, more, marked_within}
use Rattle.plan_jobs.specs.declared.job.JobState.{JobState}
use Rattle.plan_jobs.specs.declared.job.JobState.TheVariants.{Waiting, Running, Completed, Failed}
use Rattle.plan_jobs.specs.Marks.{NoneMarked}
use Rattle.plan_jobs.specs.Events.{is_running}
use Rattle.plan_jobs.specs.Board.{AreBegun, AreCounts, AreHeld, AreReady, HasFailed, MarksMore, IsUser, Keeps, Leads, is_begun, is_completed, state_at, times}
use Rattle.plan_jobs.proofs.Spread.{held_more, held_same, marked-unset}
use Rattle.plan_jobs.proofs.Counts.{none_open, open_less, open_same, times_none}

pub completed_is : (state : JobState) → is_completed state ≡ true → state ≡ Completed
completed_is Waiting e = absurd (cc)
completed_is Running e = absurd (cc)
completed_is Completed e = refl
completed_is Failed e = absurd (cc)

pub state_here : (states : List JobState) (place : ℕ) (state : JobState) → place < length states → state_at (set states place state) place ≡ state
state_here states place state lt = get_or-set_same states place state Waiting lt

pub state_there : (states : List JobState) (place other : ℕ) (state : JobState) → (other ≡ place → ⊥) → state_at (set states place state) other ≡ state_at states other
state_there states place other state n = get_or-set_other states place other state Waiting n

-- a node that was seen to run does so in the states themselves
pub still_runs : (states seen : List JobState) (asked place : ℕ) → seen ≡ states → place ≡ asked → state_at seen asked ≡ Running → state_at states place ≡ Running
still_runs states seen asked place same found runs = ap (λ (states : List JobState). state_at states place) (sym same) ∙ ap (λ k. state_at seen k) found ∙ runs

-- a place with a state other than Waiting is that of a node
pub state_within : (states : List JobState) (place : ℕ) (state : JobState) → (Waiting ≡ state → ⊥) → state_at states place ≡ state → place < length states
state_within [] place state n e = absurd (n e)
state_within (s ∷ states) zero state n e = omega arith
state_within (s ∷ states) (suc place) state n e = let k = state_within states place state n e in omega arith

-- places with different states are distinct
apart : (states : List JobState) (place other : ℕ) (a b : JobState) → (a ≡ b → ⊥) → state_at states place ≡ a → state_at states other ≡ b → other ≡ place → ⊥
apart states place other a b n ea eb e = n (sym ea ∙ sym (ap (state_at states) e) ∙ eb)

module _ (users : List (List ℕ)) (states : List JobState) (b : AreBegun users states) where
  -- from a node that runs or is completed, paths lead only to completed ones
  pub begun_leads : (user need : ℕ) → is_begun (state_at states user) ≡ true → Leads users user need → state_at states need ≡ Completed
  begun_leads user need begun (last i) = b.met user need i begun
  begun_leads user need begun (more {w = next} i p) = begun_leads next need (ap is_begun (b.met user next i begun)) p

  -- the same from a node that needs only completed ones
  pub met_leads : (user need : ℕ) → ((next : ℕ) → IsUser users user next → state_at states next ≡ Completed) → Leads users user need → state_at states need ≡ Completed
  met_leads user need met (last i) = met need i
  met_leads user need met (more {w = next} i p) = begun_leads next need (ap is_begun (met next i)) p

  pub begun_set : (place : ℕ) (state : JobState) → (state_at states place ≡ Completed → ⊥) → ((need : ℕ) → IsUser users place need → state_at states need ≡ Completed)
      → AreBegun users (set states place state)
  begun_set place state n met =
      let done = λ (need : ℕ) (e : state_at states need ≡ Completed).
      state_there states place need state (λ s. n (sym (ap (state_at states) s) ∙ e)) ∙ e in
      record {
        count = b.count ∙ sym (length-set states place state);
        within = λ u p i. subst (λ n. u < n) (sym (length-set states place state)) (b.within u p i);
        met = λ u p i begun. done p (⊎_elim
            (λ e. met p (subst (λ k. IsUser users k p) e i))
            (λ d. b.met u p i (ap is_begun (sym (state_there states place u state d)) ∙ begun))
            (cases_eq u place));
      }

  module _ (held : List Bool) (h : AreHeld users states (HasFailed states) held) where
    -- a waiting node with a path to a failed one is marked
    pub held_by_way : (user need : ℕ) → state_at states user ≡ Waiting → Leads users user need → HasFailed states need → IsMarked held user
    held_by_way user need w (last i) f = h.closed user need i w (inl f)
    held_by_way user need w (more {w = next} i p) f =
        elim (state_at states next) as (λ s. state_at states next ≡ s → IsMarked held user) [
          | Waiting ↦ λ e. h.closed user next i w (inr (held_by_way next need e p f))
          | Running ↦ λ e. absurd (let k = begun_leads next need (ap is_begun e) p in let wrong : Completed ≡ Failed = sym k ∙ f in cc)
          | Completed ↦ λ e. absurd (let k = begun_leads next need (ap is_begun e) p in let wrong : Completed ≡ Failed = sym k ∙ f in cc)
          | Failed ↦ λ e. h.closed user next i w (inl e)
        ] refl

    pub met_unmarked : (place : ℕ) → ((need : ℕ) → IsUser users place need → state_at states need ≡ Completed) → IsMarked held place → ⊥
    met_unmarked place met m =
        let k = h.sound place m in let done = met_leads place k.need met k.path in let wrong : Completed ≡ Failed = sym done ∙ k.broken in cc

    pub begun_unmarked : (place : ℕ) → state_at states place ≡ Running → IsMarked held place → ⊥
    begun_unmarked place e m = let k = (h.sound place m).waits in let wrong : Waiting ≡ Running = sym k ∙ e in cc

    pub held_set : (place : ℕ) (state : JobState) → (IsMarked held place → ⊥) → (state ≡ Waiting → ⊥) → place < length states
        → AreHeld users (set states place state) (HasFailed states) held
    held_set place state free n lt =
        record {
          count = h.count ∙ sym (length-set states place state);
          sound = λ u m. let k = h.sound u m in
              record {
                waits = state_there states place u state (λ e. free (subst (λ k. IsMarked held k) e m)) ∙ k.waits;
                need = k.need;
                path = k.path;
                broken = k.broken;
              };
          closed = λ u need i w e. h.closed u need i (⊎_elim
              (λ s. absurd (n (sym (state_here states place state lt) ∙ subst (λ k. state_at (set states place state) k ≡ Waiting) s w)))
              (λ d. sym (state_there states place u state d) ∙ w)
              (cases_eq u place)) e;
        }

    pub held_stays : (place : ℕ) (state : JobState) → (IsMarked held place → ⊥) → (state ≡ Waiting → ⊥) → (state ≡ Failed → ⊥) → (state_at states place ≡ Failed → ⊥) → place < length states
        → AreHeld users (set states place state) (HasFailed (set states place state)) held
    held_stays place state free n f was lt =
        held_same users (set states place state) (HasFailed states) (HasFailed (set states place state)) held (held_set place state free n lt)
        (λ need. (
          (λ e. state_there states place need state (λ s. was (sym (ap (state_at states) s) ∙ e)) ∙ e),
          λ e. ⊎_elim
              (λ s. absurd (f (sym (state_here states place state lt) ∙ subst (λ k. state_at (set states place state) k ≡ Failed) s e)))
              (λ d. sym (state_there states place need state d) ∙ e)
              (cases_eq need place),
        ))

    pub held_grows : (place : ℕ) (new : List Bool) → (IsMarked held place → ⊥) → place < length states → MarksMore users (set states place Failed) place held new
        → AreHeld users (set states place Failed) (HasFailed (set states place Failed)) new
    held_grows place new free lt m =
        held_more users (set states place Failed) (HasFailed states) (HasFailed (set states place Failed)) place held new (held_set place Failed free (λ e. cc) lt) m
        (state_here states place Failed lt)
        (λ need e. ⊎_elim
        (λ s. subst (λ k. state_at (set states place Failed) k ≡ Failed) (sym s) (state_here states place Failed lt))
        (λ d. state_there states place need Failed d ∙ e)
        (cases_eq need place))
        (λ need e. ⊎_elim (λ s. inr s) (λ d. inl (sym (state_there states place need Failed d) ∙ e)) (cases_eq need place))

-- a node that wasn't waiting gets another state than Waiting
pub ready_stays : (states : List JobState) (unmet : List ℕ) (ready : List Bool) (place : ℕ) (state : JobState) → (state_at states place ≡ Waiting → ⊥) → (state ≡ Waiting → ⊥) → place < length states
    → AreReady states unmet ready → AreReady (set states place state) unmet ready
ready_stays states unmet ready place state was n lt r other = ⊎_elim
    (λ e. (
      (λ m. absurd (was (subst (λ k. state_at states k ≡ Waiting) e ((r other).0 m).1))),
      λ m. absurd (n (sym (state_here states place state lt) ∙ subst (λ k. state_at (set states place state) k ≡ Waiting) e m.1)),
    ))
    (λ d. let stays = state_there states place other state d in (
      (λ m. let k = (r other).0 m in (subst (λ n. other < n) (sym (length-set states place state)) k.0, stays ∙ k.1, k.2)),
      λ m. (r other).1 (subst (λ n. other < n) (length-set states place state) m.0, sym stays ∙ m.1, m.2),
    ))
    (cases_eq other place)

-- a ready node is started
pub ready_less : (states : List JobState) (unmet : List ℕ) (ready : List Bool) (place : ℕ) → place < length states → place < length ready
    → AreReady states unmet ready → AreReady (set states place Running) unmet (set ready place false)
ready_less states unmet ready place lt room r other = ⊎_elim
    (λ e. (
      (λ m. absurd (((marked-unset ready place other room).0 m).1 e)),
      λ m. absurd (let wrong : Running ≡ Waiting = sym (state_here states place Running lt) ∙ subst (λ k. state_at (set states place Running) k ≡ Waiting) e m.1 in cc),
    ))
    (λ d. let stays = state_there states place other Running d in (
      (λ m. let k = (r other).0 ((marked-unset ready place other room).0 m).0 in (subst (λ n. other < n) (sym (length-set states place Running)) k.0, stays ∙ k.1, k.2)),
      λ m. (marked-unset ready place other room).1 ((r other).1 (subst (λ n. other < n) (length-set states place Running) m.0, sym stays ∙ m.1, m.2), d),
    ))
    (cases_eq other place)

pub runs_more : (states : List JobState) (place : ℕ) (state : JobState) → place < length states
    → count_by is_running (set states place state) + cond (is_running (state_at states place)) 1 0 ≡ count_by is_running states + cond (is_running state) 1 0
runs_more states place state lt = sum_by-set (λ s. cond (is_running s) 1 0) states place state Waiting lt

pub counts_same : (users : List (List ℕ)) (states : List JobState) (unmet : List ℕ) (place : ℕ) (state : JobState) → is_completed (state_at states place) ≡ false → is_completed state ≡ false
    → AreCounts users states unmet → AreCounts users (set states place state) unmet
counts_same users states unmet place state was is k =
    record {
      count = k.count ∙ sym (length-set states place state);
      each = λ u lt. k.each u (subst (λ n. u < n) (length-set states place state) lt) ∙ sym (open_same users states place u state was is);
    }

module _ (users : List (List ℕ)) (states : List JobState) (unmet : List ℕ) (ready held to_hold : List Bool) (running slots : ℕ)
    (k : Keeps users states unmet ready held to_hold running slots) (place : ℕ) where
  -- the needs of a ready node are completed
  pub ready_met : IsMarked ready place → (need : ℕ) → IsUser users place need → state_at states need ≡ Completed
  ready_met m need i =
      let r = (k.first place).0 m in
      completed_is (state_at states need) (none_open users states need place k.begun.count (sym (k.counts.each place r.0) ∙ r.2) i)

  pub start_keeps : IsMarked ready place → (running ≡ slots → ⊥) → Keeps users (set states place Running) unmet (set ready place false) held to_hold (running + 1) slots
  start_keeps m free =
      let r = (k.first place).0 m in
      let was : state_at states place ≡ Waiting = r.1 in
      let met = ready_met m in
      let same = length-set states place Running in
      let more' = runs_more states place Running r.0 in
      let count : count_by is_running (set states place Running) + 0 ≡ count_by is_running states + 1 =
      subst (λ s. count_by is_running (set states place Running) + cond (is_running s) 1 0 ≡ count_by is_running states + 1) was more' in
      let run = k.run in
      let few = k.few in
      record {
        begun = begun_set users states k.begun place Running (λ e. let wrong : Waiting ≡ Completed = sym was ∙ e in cc) met;
        counts = counts_same users states unmet place Running (ap is_completed was) refl k.counts;
        room = let o = k.room in let l = length-set ready place false in omega (arith, o, l, same);
        first = ready_less states unmet ready place r.0 (marked_within ready place m) k.first;
        holds = held_stays users states k.begun held k.holds place Running (met_unmarked users states k.begun held k.holds place met) (λ e. cc) (λ e. cc)
            (λ e. let wrong : Waiting ≡ Failed = sym was ∙ e in cc) r.0;
        space = let o = k.space in omega (arith, o, same);
        idle = k.idle;
        run = omega (arith, count, run);
        few = omega (arith, few, free);
      }

  module _ (runs : state_at states place ≡ Running) where
    pub here : place < length states
    here = state_within states place Running (λ e. cc) runs

    not_completed : state_at states place ≡ Completed → ⊥
    not_completed e = let wrong : Running ≡ Completed = sym runs ∙ e in cc

    met : (need : ℕ) → IsUser users place need → state_at states need ≡ Completed
    met need i = k.begun.met place need i (ap is_begun runs)

    pub one_runs : (state : JobState) → is_running state ≡ false → (running - 1 ≡ count_by is_running (set states place state)) × (1 ≤ running)
    one_runs state n =
        let more' = runs_more states place state here in
        let a : count_by is_running (set states place state) + 1 ≡ count_by is_running states + cond (is_running state) 1 0 =
        subst (λ s. count_by is_running (set states place state) + cond (is_running s) 1 0 ≡ count_by is_running states + cond (is_running state) 1 0) runs more' in
        let b : count_by is_running (set states place state) + 1 ≡ count_by is_running states + 0 =
        subst (λ t. count_by is_running (set states place state) + 1 ≡ count_by is_running states + cond t 1 0) n a in
        let run = k.run in
        (omega (arith, b, run), omega (arith, b, run))

    pub begun_now : (state : JobState) → AreBegun users (set states place state)
    begun_now state = begun_set users states k.begun place state not_completed met

    pub fail_keeps : (new new_work : List Bool) → MarksMore users (set states place Failed) place held new → length new_work ≡ length to_hold → NoneMarked new_work
        → Keeps users (set states place Failed) unmet ready new new_work (running - 1) slots
    fail_keeps new new_work m room idle =
        let same = length-set states place Failed in
        let one = one_runs Failed refl in
        record {
          begun = begun_now Failed;
          counts = counts_same users states unmet place Failed (ap is_completed runs) refl k.counts;
          room = let o = k.room in omega (arith, o, same);
          first = ready_stays states unmet ready place Failed (λ e. let wrong : Running ≡ Waiting = sym runs ∙ e in cc) (λ e. cc) here k.first;
          holds = held_grows users states k.begun held k.holds place new (begun_unmarked users states k.begun held k.holds place runs) here m;
          space = let o = k.space in omega (arith, o, same, room);
          idle = idle;
          run = one.0;
          few = let f = k.few in omega (arith, f);
        }

    pub less_open : (user : ℕ) → times user (get_or users place []) ≤ slice_index unmet user
    less_open user = ⊎_elim
        (λ lt.
        let e = open_less users states place user Completed here (ap is_completed runs) refl in
        let c = k.counts.each user lt in
        omega (arith, e, c))
        (λ ge. let none = times_none (get_or users place []) user (λ i. let lt = k.begun.within user place i in omega (arith, ge, lt)) in omega (arith, none))
        (cases_lt user (length states))

    pub ready_now : AreReady (set states place Completed) unmet ready
    ready_now = ready_stays states unmet ready place Completed (λ e. let wrong : Running ≡ Waiting = sym runs ∙ e in cc) (λ e. cc) here k.first

    pub complete_keeps : (new : List ℕ) (new_ready : List Bool) → length new ≡ length unmet → length new_ready ≡ length ready
        → ((user : ℕ) → slice_index new user + times user (get_or users place []) ≡ slice_index unmet user) → AreReady (set states place Completed) new new_ready
        → Keeps users (set states place Completed) new new_ready held to_hold (running - 1) slots
    complete_keeps new new_ready count room less r =
        let same = length-set states place Completed in
        let one = one_runs Completed refl in
        record {
          begun = begun_now Completed;
          counts = record {
            count = count ∙ k.counts.count ∙ sym same;
            each = λ u lt.
                let e = open_less users states place u Completed here (ap is_completed runs) refl in
                let c = k.counts.each u (subst (λ n. u < n) same lt) in
                let l = less u in
                omega (arith, e, c, l);
          };
          room = let o = k.room in omega (arith, o, same, room);
          first = r;
          holds = held_stays users states k.begun held k.holds place Completed (begun_unmarked users states k.begun held k.holds place runs) (λ e. cc) (λ e. cc)
              (λ e. let wrong : Running ≡ Failed = sym runs ∙ e in cc) here;
          space = let o = k.space in omega (arith, o, same);
          idle = k.idle;
          run = one.0;
          few = let f = k.few in omega (arith, f);
        }
