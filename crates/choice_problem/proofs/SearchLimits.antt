-- Shared: a search with a limit gives up, or has the answer of one without.
use Rattle.std.proofs.Common.{◌≡◌, ◌≢◌, ℕ, zero, suc, ◌+◌, ◌≤◌, Bool, true, false, cond, not, ◌&&◌, List, [], ◌∷◌, ◌++◌, Option, Some, None, refl, sym, subst, inl, inr, ◌⊎◌, arith}
use Rattle.plan_types.specs.declared.limit.Limit.{Limit}
use Rattle.plan_types.specs.declared.limit.Limit.TheVariants.{Unlimited}
use Rattle.qualified_goals.specs.declared.variable.Var.{Var}
use Rattle.choice_problem.specs.declared.problem.Choice.{Choice}
use Rattle.choice_problem.specs.Problem.{Problem}
use Rattle.choice_problem.specs.Trail.{choice_of, with_next}
use Rattle.choice_problem.specs.Active.{open_in, reason}
use Rattle.choice_problem.specs.Guide.{Guide}
use Rattle.choice_problem.specs.Conflict.{conflict}
use Rattle.choice_problem.specs.ConflictSet.{has, set_of, union}
use Rattle.choice_problem.specs.Answer.{Ended, Found, Failed, GaveUp, Past, Answer, Manner, one_visited, one_exhausted, gives_up, fails, exhausts, after_conflict, of_value, after_end, after_value, of_values, answer_from, nothing_yet, guided_answer}

abbrev pub answer_with : Ended → Past → Answer
answer_with ended past = record { ended = ended; past = past }

-- the tries are at least so many
abbrev pub TriesFrom : ℕ → Answer → Type 0
TriesFrom n answer = n ≤ answer.past.counts.visited

-- tries are never taken back

pub exhausts-tries : (manner : Manner) (p : Problem) (prefix : List Choice) (v : Var) (failed : List Var) (past : Past) → TriesFrom past.counts.visited (exhausts manner p prefix v failed past)
exhausts-tries manner p prefix v failed past =
    elim (gives_up manner.limit prefix past.counts.exhausted) as (λ b. TriesFrom past.counts.visited
    (cond b (answer_with GaveUp past) (fails (union failed (set_of (v ∷ reason p prefix v))) (one_exhausted past)))) [
      | true ↦ omega arith
      | false ↦ omega arith
    ]

pub after_end-tries : (n : ℕ) (manner : Manner) (v : Var) (ended : Ended) (past : Past) (rest : List Var → Past → Answer)
    → n ≤ past.counts.visited → ((set : List Var) → TriesFrom past.counts.visited (rest set past)) → TriesFrom n (after_end manner v ended past rest)
after_end-tries n manner v (Found trail) past rest h k = h
after_end-tries n manner v GaveUp past rest h k = h
after_end-tries n manner v (Failed set) past rest h k =
    elim (manner.jumps && not (has set v)) as (λ b. TriesFrom n (cond b (answer_with (Failed set) past) (rest set past))) [
      | true ↦ h
      | false ↦ omega (arith, h, k set)
    ]

pub of_value-tries : (Below : List Choice → Past → Answer) (p : Problem) (prefix : List Choice) (c : Choice) (past : Past)
    → ((trail : List Choice) (now : Past) → TriesFrom now.counts.visited (Below trail now)) → TriesFrom past.counts.visited (of_value Below p prefix c past)
of_value-tries Below p prefix c past below =
    elim (conflict p prefix c) as (λ o. TriesFrom past.counts.visited (after_conflict o past (Below (prefix ++ c ∷ []) past))) [
      | None ↦ below (prefix ++ c ∷ []) past
      | Some set ↦ omega arith
    ]

pub of_values-tries : (Below : List Choice → Past → Answer) (manner : Manner) (p : Problem) (prefix : List Choice) (v : Var) (values : List ℕ) (failed : List Var) (past : Past)
    → ((trail : List Choice) (now : Past) → TriesFrom now.counts.visited (Below trail now)) → TriesFrom past.counts.visited (of_values Below manner p prefix v values failed past)
of_values-tries Below manner p prefix v [] failed past below = exhausts-tries manner p prefix v failed past
of_values-tries Below manner p prefix v (n ∷ values) failed past below =
    let answer = of_value Below p prefix (choice_of v n) (one_visited past) in
    let tries : past.counts.visited + 1 ≤ answer.past.counts.visited = of_value-tries Below p prefix (choice_of v n) (one_visited past) below in
    after_end-tries past.counts.visited manner v answer.ended answer.past (λ set now. of_values Below manner p prefix v values (union failed set) now) (omega (arith, tries))
    (λ set. of_values-tries Below manner p prefix v values (union failed set) answer.past below)

pub answer-tries : (fuel : ℕ) (manner : Manner) (p : Problem) (prefix : List Choice) (past : Past) → TriesFrom past.counts.visited (answer_from fuel manner p prefix past)
answer-tries zero manner p prefix past = omega arith
answer-tries (suc fuel) manner p prefix past =
    elim (manner.guide past.met (open_in p prefix)) as (λ o. TriesFrom past.counts.visited (with_next o (answer_with (Found prefix) past) (λ v. of_values (answer_from fuel manner p) manner p prefix v (p.order v prefix) [] past))) [
      | None ↦ omega arith
      | Some v ↦ of_values-tries (answer_from fuel manner p) manner p prefix v (p.order v prefix) [] past (answer-tries fuel manner p)
    ]

-- a search that jumps, with a guide and a limit

abbrev pub limited : Guide → Limit → Manner
limited guide limit = record { guide = guide; limit = limit; jumps = true }

-- it gave up after fewer tries than the other made, or answers the same
abbrev pub GaveUpOrSame : Answer → Answer → Type 0
GaveUpOrSame answer other = ((answer.ended ≡ GaveUp) × (answer.past.counts.visited ≤ other.past.counts.visited)) ⊎ (answer ≡ other)

-- without a limit no point gives up
pub no-limit : (prefix : List Choice) (exhausted : ℕ) → gives_up Unlimited prefix exhausted ≡ false
no-limit [] exhausted = refl
no-limit (c ∷ prefix) exhausted = refl

exhausts-alike : (guide : Guide) (limit : Limit) (p : Problem) (prefix : List Choice) (v : Var) (failed : List Var) (past : Past)
    → GaveUpOrSame (exhausts (limited guide limit) p prefix v failed past) (exhausts (limited guide Unlimited) p prefix v failed past)
exhausts-alike guide limit p prefix v failed past =
    let by = λ (b : Bool). cond b (answer_with GaveUp past) (fails (union failed (set_of (v ∷ reason p prefix v))) (one_exhausted past)) in
    subst (λ c. GaveUpOrSame (by (gives_up limit prefix past.counts.exhausted)) (by c)) (sym (no-limit prefix past.counts.exhausted))
    (elim (gives_up limit prefix past.counts.exhausted) as (λ b. GaveUpOrSame (by b) (by false)) [ true ↦ inl (refl, omega arith) | false ↦ inr refl ])

after_end-alike : (guide : Guide) (limit : Limit) (v : Var) (ended : Ended) (past : Past) (rest other : List Var → Past → Answer)
    → ((set : List Var) → GaveUpOrSame (rest set past) (other set past)) → GaveUpOrSame (after_end (limited guide limit) v ended past rest) (after_end (limited guide Unlimited) v ended past other)
after_end-alike guide limit v (Found trail) past rest other h = inr refl
after_end-alike guide limit v GaveUp past rest other h = inr refl
after_end-alike guide limit v (Failed set) past rest other h =
    elim (not (has set v)) as (λ b. GaveUpOrSame (cond b (answer_with (Failed set) past) (rest set past)) (cond b (answer_with (Failed set) past) (other set past))) [
      | true ↦ inr refl
      | false ↦ h set
    ]

after_value-alike : (guide : Guide) (limit : Limit) (v : Var) (answer same : Answer) (rest other : List Var → Past → Answer)
    → GaveUpOrSame answer same
    → ((set : List Var) → TriesFrom same.past.counts.visited (other set same.past))
    → ((set : List Var) (now : Past) → GaveUpOrSame (rest set now) (other set now))
    → GaveUpOrSame (after_value (limited guide limit) v answer rest) (after_value (limited guide Unlimited) v same other)
after_value-alike guide limit v answer same rest other (inl gave) tries h =
    let most = after_end-tries same.past.counts.visited (limited guide Unlimited) v same.ended same.past other (omega arith) tries in
    subst (λ ended. GaveUpOrSame (after_end (limited guide limit) v ended answer.past rest) (after_value (limited guide Unlimited) v same other)) (sym gave.0) (inl (refl, omega (arith, gave.1, most)))
after_value-alike guide limit v answer same rest other (inr e) tries h =
    subst (λ one. GaveUpOrSame (after_value (limited guide limit) v one rest) (after_value (limited guide Unlimited) v same other)) (sym e)
    (after_end-alike guide limit v same.ended same.past rest other (λ set. h set same.past))

of_value-alike : (Below Other : List Choice → Past → Answer) (p : Problem) (prefix : List Choice) (c : Choice) (past : Past)
    → ((trail : List Choice) (now : Past) → GaveUpOrSame (Below trail now) (Other trail now)) → GaveUpOrSame (of_value Below p prefix c past) (of_value Other p prefix c past)
of_value-alike Below Other p prefix c past h =
    elim (conflict p prefix c) as (λ o. GaveUpOrSame (after_conflict o past (Below (prefix ++ c ∷ []) past)) (after_conflict o past (Other (prefix ++ c ∷ []) past))) [
      | None ↦ h (prefix ++ c ∷ []) past
      | Some set ↦ inr refl
    ]

module _ (Below Other : List Choice → Past → Answer) (guide : Guide) (p : Problem) (limit : Limit) (tries : (trail : List Choice) (now : Past) → TriesFrom now.counts.visited (Other trail now))
    (h : (trail : List Choice) (now : Past) → GaveUpOrSame (Below trail now) (Other trail now)) where
  of_values-alike : (prefix : List Choice) (v : Var) (values : List ℕ) (failed : List Var) (past : Past)
      → GaveUpOrSame (of_values Below (limited guide limit) p prefix v values failed past) (of_values Other (limited guide Unlimited) p prefix v values failed past)
  of_values-alike prefix v [] failed past = exhausts-alike guide limit p prefix v failed past
  of_values-alike prefix v (n ∷ values) failed past =
      let c = choice_of v n in
      let same = of_value Other p prefix c (one_visited past) in
      after_value-alike guide limit v (of_value Below p prefix c (one_visited past)) same
      (λ set now. of_values Below (limited guide limit) p prefix v values (union failed set) now) (λ set now. of_values Other (limited guide Unlimited) p prefix v values (union failed set) now)
      (of_value-alike Below Other p prefix c (one_visited past) h)
      (λ set. of_values-tries Other (limited guide Unlimited) p prefix v values (union failed set) same.past tries)
      (λ set now. of_values-alike prefix v values (union failed set) now)

pub answer-alike : (guide : Guide) (fuel : ℕ) (p : Problem) (limit : Limit) (prefix : List Choice) (past : Past)
    → GaveUpOrSame (answer_from fuel (limited guide limit) p prefix past) (answer_from fuel (limited guide Unlimited) p prefix past)
answer-alike guide zero p limit prefix past = inr refl
answer-alike guide (suc fuel) p limit prefix past =
    let by = λ (lim : Limit) (o : Option Var). with_next o (answer_with (Found prefix) past) (λ v. of_values (answer_from fuel (limited guide lim) p) (limited guide lim) p prefix v (p.order v prefix) [] past) in
    elim (guide past.met (open_in p prefix)) as (λ o. GaveUpOrSame (by limit o) (by Unlimited o)) [
      | None ↦ inr refl
      | Some v ↦
          of_values-alike (answer_from fuel (limited guide limit) p) (answer_from fuel (limited guide Unlimited) p) guide p limit (answer-tries fuel (limited guide Unlimited) p) (answer-alike guide fuel p limit)
          prefix v (p.order v prefix) [] past
    ]

pub limit-gives-up : (guide : Guide) (p : Problem) (limit : Limit) → (guided_answer guide p limit).ended ≢ GaveUp → guided_answer guide p limit ≡ guided_answer guide p Unlimited
unfolding guided_answer
limit-gives-up guide p limit not_given = elim (answer-alike guide p.bound p limit [] nothing_yet) [ inl gave ↦ absurd (not_given gave.0) | inr same ↦ same ]

pub limit-tries : (guide : Guide) (p : Problem) (limit : Limit) → (guided_answer guide p limit).past.counts.visited ≤ (guided_answer guide p Unlimited).past.counts.visited
unfolding guided_answer
limit-tries guide p limit =
    elim (answer-alike guide p.bound p limit [] nothing_yet) [
      | inl gave ↦ gave.1
      | inr same ↦ subst (λ answer. answer.past.counts.visited ≤ (guided_answer guide p Unlimited).past.counts.visited) (sym same) (omega arith)
    ]
