-- The set left admits none, and an assignment holds without each of its variables.
use Rattle.std.proofs.Common.{◌≡◌, ◌<◌, ◌≤◌, ℕ, suc, length, drop, get_or, drop-cons, true, false, cond, not, List, [], ◌∷◌, ◌++◌, map, Some, None, refl, sym, ap, ◌∙◌, subst, inl, inr, append_assoc}
use Rattle.std.specs.List.{Contains, AllZip}
use Rattle.std.proofs.lemmas.Bool.{false≢true}
use Rattle.std.proofs.lemmas.List.{append-nil, at_drop_all}
use Rattle.plan_types.specs.declared.limit.Limit.{Limit}
use Rattle.plan_types.specs.declared.limit.Limit.TheVariants.{Unlimited}
use Rattle.qualified_goals.specs.declared.variable.Var.{Var}
use Rattle.qualified_goals.specs.Variable.{same_var}
use Rattle.qualified_goals.specs.SameVariable.{same_var-is}
use Rattle.choice_problem.specs.declared.problem.Choice.{Choice}
use Rattle.choice_problem.specs.Problem.{Problem, Lawful}
use Rattle.choice_problem.specs.General.{general}
use Rattle.choice_problem.specs.Holds.{HoldsWithin, AdmitsNone}
use Rattle.choice_problem.specs.Trail.{value_in, AreNew}
use Rattle.choice_problem.specs.ConflictSet.{has, without, is_rising}
use Rattle.choice_problem.specs.Answer.{Found, Failed, GaveUp}
use Rattle.choice_problem.proofs.FailureSets.{within, restrict}
use Rattle.choice_problem.proofs.VariableSets.{same-back, before-not-same, rising-tail, rising-below}
use Rattle.common_laws.specs.Lists.{all-at, all-from, contains-head, contains-tail, contains-none, contains-cases, contains-append, contains-filter}
use Rattle.conflict_shrink.specs.declared.shrinking.Stage.{Stage}
use Rattle.conflict_shrink.specs.declared.shrinking.Shrunk.{Shrunk}
use Rattle.conflict_shrink.specs.Restricted.{restricted, are_known}
use Rattle.conflict_shrink.specs.RestrictedLaws.{restricted_lawful}
use Rattle.conflict_shrink.specs.Shrinking.{GivesUp, ShrinkEnd, Tight, OverBudget, IsFreed, IsTight, answer_without, after_search, cut, go_on, limit_after, shrink_from, shrinking, shrunk_at, spent_with, tried, untried_stage}
use Rattle.conflict_shrink.proofs.Restricts.{holds-in-whole, admits-by-part}
use Rattle.conflict_shrink.proofs.Searches.{Says, says}
use Rattle.conflict_shrink.proofs.ShrunkSets.{without-has, has-without, without-itself, without-part, without-middle, value_in-cut, cut-new, zip-push, zip-more, zip-mapped}

-- known variables stay known when one is removed
pub known-without : (p : Problem) (v : Var) (set : List Var) → are_known p set ≡ true → are_known p (without v set) ≡ true
known-without p v set known =
    all-from p.known (without v set) (λ u k. all-at p.known set u known (contains-filter (λ (w : Var). not (same_var v w)) set u k).0)

-- an assignment holds without the variable, within an earlier set from which others were dropped since
pub record WasFreed (p : Problem) (left : List Var) (v : Var) (trail : List Choice) : Type 0 where
  pub earlier : List Var
  pub part : (u : Var) → has left u ≡ true → has earlier u ≡ true
  pub once : AreNew trail
  pub holds : HoldsWithin (general p) (has (without v earlier)) (value_in trail)

module _ (p : Problem) where
  was-freed : (large small : List Var) → ((u : Var) → has small u ≡ true → has large u ≡ true) → (v : Var) (trail : List Choice) → WasFreed p large v trail → WasFreed p small v trail
  was-freed large small sub v trail was = record { earlier = was.earlier; part = λ u h. was.part u (sub u h); once = was.once; holds = was.holds }

  -- a trail's assignment within the set without the variable is that of the trail cut to the set
  cut-is-within : (left : List Var) (v : Var) (trail : List Choice) → value_in trail v ≡ None → (u : Var) → within (has (without v left)) (value_in trail) u ≡ value_in (cut left trail) u
  cut-is-within left v trail unchosen u =
      elim (has (without v left) u) as (λ b. has (without v left) u ≡ b → cond b (value_in trail u) None ≡ value_in (cut left trail) u) [
        | true ↦ λ h. sym (value_in-cut left trail u ∙ ap (λ b. cond b (value_in trail u) None) (without-has v left u h).0)
        | false ↦ λ h. elim (has left u) as (λ b. has left u ≡ b → None ≡ cond b (value_in trail u) None) [
          | true ↦ λ k. elim (same_var v u) as (λ b. same_var v u ≡ b → None ≡ value_in trail u) [
            | true ↦ λ same. sym (subst (λ w. value_in trail w ≡ None) (same_var-is v u same) unchosen)
            | false ↦ λ other. absurd (false≢true (sym h ∙ has-without v left u k other))
          ] refl
          | false ↦ λ k. refl
        ] refl ∙ sym (value_in-cut left trail u)
      ] refl

  freed : (left : List Var) (v : Var) (trail : List Choice) → WasFreed p left v trail → IsFreed (general p) left v (cut left trail)
  freed left v trail was =
      let large = without v was.earlier in
      let small = without v left in
      let unchosen = elim (value_in trail v) as (λ o. value_in trail v ≡ o → o ≡ None) [
        | None ↦ λ e. refl
        | Some n ↦ λ e. absurd (false≢true (sym (without-itself v was.earlier) ∙ was.holds.assignment.inside v n e))
      ] refl in
      let same : within (has small) (value_in trail) ≡ value_in (cut left trail) = λ i u. cut-is-within left v trail unchosen u i in
      record {
        once = cut-new left trail was.once;
        holds = subst (HoldsWithin (general p) (has small)) same
            (restrict p (has large) (has small) (value_in trail) (λ r is h. without-part v left was.earlier was.part r.target h) was.holds);
      }

-- the set left has the kept variables, then the untried ones in goal order; it admits none
pub record Stands (p : Problem) (whole kept untried : List Var) (s : Stage) : Type 0 where
  pub left_is : s.left ≡ kept ++ untried
  pub rising : is_rising untried ≡ true
  pub apart : (u w : Var) → Contains kept u → Contains untried w → same_var w u ≡ false
  pub within_whole : (v : Var) → has s.left v ≡ true → has whole v ≡ true
  pub known : are_known p s.left ≡ true
  pub none : AdmitsNone (general p) (has s.left)
  pub were_freed : AllZip (WasFreed p s.left) kept s.trails

module _ (p : Problem) (lawful : Lawful p) (whole : List Var) (budget : Limit) where
  at-start : (set : List Var) → is_rising set ≡ true → are_known p set ≡ true → AdmitsNone (general p) (has set) → Stands p set [] set (untried_stage set)
  at-start set rising known none = record {
    left_is = refl;
    rising = rising;
    apart = λ u w k l. absurd (contains-none u k);
    within_whole = λ v h. h;
    known = known;
    none = none;
    were_freed = tt;
  }

  module _ (kept : List Var) (v : Var) (untried : List Var) (s : Stage) (spent : ℕ) (stands : Stands p whole kept (v ∷ untried) s) where
    later-other : (w : Var) → Contains untried w → same_var v w ≡ false
    later-other w k = before-not-same v w (rising-below v untried w stands.rising k)

    part-lawful : Lawful (restricted p (without v s.left))
    part-lawful = restricted_lawful p (without v s.left) (known-without p v s.left stands.known) lawful

    -- the meaning of the search's end
    search-says : Says (restricted p (without v s.left)) (limit_after budget s.spent) (answer_without p budget v s).ended
    search-says = says (restricted p (without v s.left)) (limit_after budget s.spent) part-lawful

    -- a trail was found without the variable
    stays : (trail : List Choice) → (answer_without p budget v s).ended ≡ Found trail
        → Stands p whole (kept ++ v ∷ []) untried (record { left = s.left; trails = s.trails ++ trail ∷ []; spent = spent })
    stays trail is =
        let found = subst (Says (restricted p (without v s.left)) (limit_after budget s.spent)) is search-says in
        record {
          left_is = stands.left_is ∙ sym (append_assoc kept (v ∷ []) untried);
          rising = rising-tail v untried stands.rising;
          apart = λ u w k l. elim (contains-append kept (v ∷ []) u k) [
            | inl i ↦ stands.apart u w i (contains-tail v untried w l)
            | inr i ↦ elim (contains-cases v [] u i) [
              | inl same ↦ subst (λ x. same_var w x ≡ false) same (same-back w v ∙ later-other w l)
              | inr none ↦ absurd (contains-none u none)
            ]
          ];
          within_whole = stands.within_whole;
          known = stands.known;
          none = stands.none;
          were_freed = zip-push (WasFreed p s.left) kept s.trails v trail stands.were_freed (record {
            earlier = s.left;
            part = λ u h. h;
            once = found.0;
            holds = holds-in-whole p (without v s.left) lawful (known-without p v s.left stands.known) (value_in trail) found.1.holds;
          });
        }

    -- the search failed without it
    drops : (set : List Var) → (answer_without p budget v s).ended ≡ Failed set
        → Stands p whole kept untried (record { left = without v s.left; trails = s.trails; spent = spent })
    drops set is =
        let none = subst (Says (restricted p (without v s.left)) (limit_after budget s.spent)) is search-says in
        let sub = λ (u : Var) (h : has (without v s.left) u ≡ true). (without-has v s.left u h).0 in
        record {
          left_is = ap (without v) stands.left_is ∙ without-middle v kept untried (λ u k. stands.apart u v k (contains-head v untried)) later-other;
          rising = rising-tail v untried stands.rising;
          apart = λ u w k l. stands.apart u w k (contains-tail v untried w l);
          within_whole = λ u h. stands.within_whole u (sub u h);
          known = known-without p v s.left stands.known;
          none = (admits-by-part p (without v s.left) lawful (known-without p v s.left stands.known)).1 none;
          were_freed = zip-more (WasFreed p s.left) (WasFreed p (without v s.left)) (was-freed p s.left (without v s.left) sub) kept s.trails stands.were_freed;
        }

  finished : (kept : List Var) (s : Stage) → Stands p whole kept [] s → IsTight (general p) whole (shrunk_at s)
  finished kept s stands =
      let all-kept : kept ≡ s.left = sym (stands.left_is ∙ append-nil kept) in
      record {
        within = stands.within_whole;
        none = stands.none;
        freed = subst (λ l. AllZip (IsFreed (general p) s.left) l (map (cut s.left) s.trails)) all-kept
            (zip-mapped (WasFreed p s.left) (IsFreed (general p) s.left) (cut s.left) (freed p s.left) kept s.trails stands.were_freed);
      }

  tightens : (kept untried : List Var) (s : Stage) → Stands p whole kept untried s → (shrunk : Shrunk) → (shrink_from p budget untried s).ended ≡ Tight shrunk → IsTight (general p) whole shrunk
  tightens kept [] s stands shrunk h = subst (IsTight (general p) whole) (cc h) (finished kept s stands)
  tightens kept (v ∷ untried) s stands shrunk h =
      let answer = answer_without p budget v s in
      let spent = spent_with answer.past.counts.exhausted s in
      elim answer.ended as (λ e. answer.ended ≡ e → (go_on (after_search v s e spent) (shrink_from p budget untried)).ended ≡ Tight shrunk → IsTight (general p) whole shrunk) [
        | Found trail ↦ λ is k. tightens (kept ++ v ∷ []) untried (record { left = s.left; trails = s.trails ++ trail ∷ []; spent = spent }) (stays kept v untried s spent stands trail is) shrunk k
        | Failed set ↦ λ is k. tightens kept untried (record { left = without v s.left; trails = s.trails; spent = spent }) (drops kept v untried s spent stands set is) shrunk k
        | GaveUp ↦ λ is k. absurd (cc k)
      ] refl h

-- a shrinking leaves a set from which no variable can be dropped
pub shrinking-tight : (p : Problem) (set : List Var) (budget : Limit) → Lawful p → is_rising set ≡ true → are_known p set ≡ true → AdmitsNone (general p) (has set)
    → (shrunk : Shrunk) → (shrinking p set budget).ended ≡ Tight shrunk → IsTight (general p) set shrunk
shrinking-tight p set budget lawful rising known none = tightens p lawful set budget [] set (untried_stage set) (at-start p lawful set budget set rising known none)

-- without a budget no search gives up
pub never-over : (p : Problem) → Lawful p → (untried : List Var) (s : Stage) → are_known p s.left ≡ true → (spent : ℕ) → (shrink_from p Unlimited untried s).ended ≡ OverBudget spent → ⊥
never-over p lawful [] s known spent h = absurd (cc h)
never-over p lawful (v ∷ untried) s known spent h =
    let answer = answer_without p Unlimited v s in
    let now = spent_with answer.past.counts.exhausted s in
    let less = known-without p v s.left known in
    let part = restricted p (without v s.left) in
    elim answer.ended as (λ e. Says part Unlimited e → (go_on (after_search v s e now) (shrink_from p Unlimited untried)).ended ≡ OverBudget spent → ⊥) [
      | Found trail ↦ λ is k. never-over p lawful untried (record { left = s.left; trails = s.trails ++ trail ∷ []; spent = now }) known spent k
      | Failed set ↦ λ is k. never-over p lawful untried (record { left = without v s.left; trails = s.trails; spent = now }) less spent k
      | GaveUp ↦ λ is k. is refl
    ] (says part Unlimited (restricted_lawful p (without v s.left) less lawful)) h

-- at the end of the loop over the variables

pub ended-at : (p : Problem) (budget : Limit) (vars : List Var) (n : ℕ) (s : Stage) (e : ShrinkEnd) → length vars ≤ n → (shrink_from p budget (drop n vars) s).ended ≡ e → e ≡ Tight (shrunk_at s)
ended-at p budget vars n s e past h = sym h ∙ at_drop_all (λ l. (shrink_from p budget l s).ended) vars n past

pub over-at : (p : Problem) (budget : Limit) (vars : List Var) (n : ℕ) (d : Var) (s : Stage) (e : ShrinkEnd) (spent : ℕ) → n < length vars → tried p budget (get_or vars n d) s ≡ GivesUp spent
    → (shrink_from p budget (drop n vars) s).ended ≡ e → e ≡ OverBudget spent
over-at p budget vars n d s e spent here gives h =
    sym h ∙ ap (λ l. (shrink_from p budget l s).ended) (drop-cons vars n d here) ∙ ap (λ t. (go_on t (shrink_from p budget (drop (suc n) vars))).ended) gives
