-- Shared: rising lists of variables: the variable at a place, one variable removed, and the least.
use Rattle.std.proofs.Common.{◌≡◌, ℕ, zero, suc, ◌+◌, ◌<◌, ◌≤◌, arith, add-one, length, get_or, insert, Bool, true, false, not, cond, ◌&&◌, ◌||◌, List, [], ◌∷◌, Option, Some, None, refl, sym, ap, ◌∙◌}
use Rattle.std.specs.List.{slice_get, remove}
use Rattle.std.specs.List.Sorted.{IsPartitionedBy}
use Rattle.std.proofs.lemmas.Bool.{false≢true, and_parts, and_from}
use Rattle.std.proofs.lemmas.Option.{slice_get-get_or}
use Rattle.qualified_goals.specs.declared.variable.Var.{Var}
use Rattle.qualified_goals.specs.Variable.{same_var, is_before}
use Rattle.qualified_goals.specs.SameVariable.{same_var-is}
use Rattle.choice_problem.specs.ConflictSet.{is_rising, has, with_var, without, place_of}
use Rattle.qualified_goals.proofs.GoalOrder.{before-trans, before-back}
use Rattle.choice_problem.proofs.VariableSets.{has-contains, rising-tail, rising-below, insert-place, before-not-same, same-back}
use Rattle.std.proofs.Math.Bool.{or-false}

-- whether a variable is the one that may stand there
abbrev pub is_there : Var → Option Var → Bool
is_there v None = false
is_there v (Some w) = same_var w v

-- a variable that isn't behind the first of a rising list isn't among the rest
not-behind : (w : Var) (vars : List Var) (v : Var) → is_rising (w ∷ vars) ≡ true → is_before w v ≡ false → has vars v ≡ false
not-behind w vars v h k =
    elim (has vars v) as (λ b. has vars v ≡ b → b ≡ false) [
      | true ↦ λ e. absurd (false≢true (sym k ∙ rising-below w vars v h (has-contains vars v e)))
      | false ↦ λ e. refl
    ] refl

pub there : (v : Var) (vars : List Var) → is_rising vars ≡ true → is_there v (slice_get vars (place_of v vars)) ≡ has vars v
there v [] h = refl
there v (w ∷ vars) h =
    elim (is_before w v) as (λ b. is_before w v ≡ b → is_there v (slice_get (w ∷ vars) (cond b (place_of v vars + 1) 0)) ≡ same_var w v || has vars v) [
      | true ↦ λ e.
          ap (λ n. is_there v (slice_get (w ∷ vars) n)) (add-one (place_of v vars)) ∙ there v vars (rising-tail w vars h)
          ∙ sym (ap (λ b. b || has vars v) (before-not-same w v e))
      | false ↦ λ e. sym (ap (λ b. same_var w v || b) (not-behind w vars v h e) ∙ or-false (same_var w v))
    ] refl

pub there-within : (v : Var) (vars : List Var) → is_rising vars ≡ true → has vars v ≡ true → place_of v vars < length vars
there-within v [] h k = absurd (false≢true k)
there-within v (w ∷ vars) h k =
    elim (is_before w v) as (λ b. is_before w v ≡ b → cond b (place_of v vars + 1) 0 < suc (length vars)) [
      | true ↦ λ e. let more = there-within v vars (rising-tail w vars h) (sym (ap (λ b. b || has vars v) (before-not-same w v e)) ∙ k) in omega (arith, more)
      | false ↦ λ e. omega arith
    ] refl

-- one variable removed

pub without-none : (v : Var) (vars : List Var) → has vars v ≡ false → without v vars ≡ vars
without-none v [] h = refl
without-none v (w ∷ vars) h =
    elim (same_var w v) as (λ b. same_var w v ≡ b → b || has vars v ≡ false → cond (not (same_var v w)) (w ∷ without v vars) (without v vars) ≡ w ∷ vars) [
      | true ↦ λ e k. absurd (false≢true (sym k))
      | false ↦ λ e k. ap (λ b. cond (not b) (w ∷ without v vars) (without v vars)) (same-back v w ∙ e) ∙ ap (λ l. w ∷ l) (without-none v vars k)
    ] refl h

pub removed : (v : Var) (vars : List Var) → is_rising vars ≡ true → has vars v ≡ true → remove vars (place_of v vars) ≡ without v vars
removed v [] h k = absurd (false≢true k)
removed v (w ∷ vars) h k =
    elim (is_before w v) as (λ b. is_before w v ≡ b → remove (w ∷ vars) (cond b (place_of v vars + 1) 0) ≡ cond (not (same_var v w)) (w ∷ without v vars) (without v vars)) [
      | true ↦ λ e.
          let other = before-not-same w v e in
          ap (remove (w ∷ vars)) (add-one (place_of v vars))
          ∙ ap (λ l. w ∷ l) (removed v vars (rising-tail w vars h) (sym (ap (λ b. b || has vars v) other) ∙ k))
          ∙ sym (ap (λ b. cond (not b) (w ∷ without v vars) (without v vars)) (same-back v w ∙ other))
      | false ↦ λ e.
          let none = not-behind w vars v h e in
          let same : same_var w v ≡ true = sym (or-false (same_var w v)) ∙ sym (ap (λ b. same_var w v || b) none) ∙ k in
          sym (ap (λ b. cond (not b) (w ∷ without v vars) (without v vars)) (same-back v w ∙ same) ∙ without-none v vars none)
    ] refl

pub has-without : (v : Var) (vars : List Var) (u : Var) → has (without v vars) u ≡ not (same_var v u) && has vars u
has-without v [] u = elim (same_var v u) as (λ b. false ≡ not b && false) [ true ↦ refl | false ↦ refl ]
has-without v (w ∷ vars) u =
    elim (same_var v w) as (λ b. same_var v w ≡ b → has (cond (not b) (w ∷ without v vars) (without v vars)) u ≡ not (same_var v u) && (same_var w u || has vars u)) [
      | true ↦ λ e.
          has-without v vars u
          ∙ elim (same_var v u) as (λ b. same_var v u ≡ b → not b && has vars u ≡ not b && (same_var w u || has vars u)) [
            | true ↦ λ k. refl
            | false ↦ λ k. sym (ap (λ x. same_var x u || has vars u) (sym (same_var-is v w e)) ∙ ap (λ b. b || has vars u) k)
          ] refl
      | false ↦ λ e.
          ap (λ b. same_var w u || b) (has-without v vars u)
          ∙ elim (same_var w u) as (λ b. same_var w u ≡ b → b || (not (same_var v u) && has vars u) ≡ not (same_var v u) && (b || has vars u)) [
            | true ↦ λ k. sym (ap (λ x. not (same_var v x) && true) (sym (same_var-is w u k)) ∙ ap (λ b. not b && true) e)
            | false ↦ λ k. refl
          ] refl
    ] refl

rising-skip : (w u : Var) (vars : List Var) → is_rising (w ∷ u ∷ vars) ≡ true → is_rising (w ∷ vars) ≡ true
rising-skip w u [] h = refl
rising-skip w u (x ∷ vars) h =
    let rest = (and_parts (is_before w u) (is_rising (u ∷ x ∷ vars)) h).1 in
    and_from (is_before w x) (is_rising (x ∷ vars))
    (before-trans w u x ((and_parts (is_before w u) (is_rising (u ∷ x ∷ vars)) h).0) ((and_parts (is_before u x) (is_rising (x ∷ vars)) rest).0))
    ((and_parts (is_before u x) (is_rising (x ∷ vars)) rest).1)

rising-behind : (v w : Var) (vars : List Var) → is_rising (w ∷ vars) ≡ true → is_rising (w ∷ without v vars) ≡ true
rising-behind v w [] h = refl
rising-behind v w (u ∷ vars) h =
    elim (same_var v u) as (λ b. is_rising (w ∷ cond (not b) (u ∷ without v vars) (without v vars)) ≡ true) [
      | true ↦ rising-behind v w vars (rising-skip w u vars h)
      | false ↦ and_from (is_before w u) (is_rising (u ∷ without v vars)) ((and_parts (is_before w u) (is_rising (u ∷ vars)) h).0) (rising-behind v u vars (rising-tail w (u ∷ vars) h))
    ]

pub rising-without : (v : Var) (vars : List Var) → is_rising vars ≡ true → is_rising (without v vars) ≡ true
rising-without v [] h = refl
rising-without v (w ∷ vars) h =
    elim (same_var v w) as (λ b. is_rising (cond (not b) (w ∷ without v vars) (without v vars)) ≡ true) [
      | true ↦ rising-without v vars (rising-tail w vars h)
      | false ↦ rising-behind v w vars h
    ]

pub length-without : (v : Var) (vars : List Var) → length (without v vars) ≤ length vars
length-without v [] = omega arith
length-without v (w ∷ vars) =
    elim (same_var v w) as (λ b. length (cond (not b) (w ∷ without v vars) (without v vars)) ≤ suc (length vars)) [
      | true ↦ omega (arith, length-without v vars)
      | false ↦ omega (arith, length-without v vars)
    ]

pub length-taken : (v : Var) (vars : List Var) → has vars v ≡ true → length (without v vars) + 1 ≤ length vars
length-taken v [] h = absurd (false≢true h)
length-taken v (w ∷ vars) h =
    elim (same_var v w) as (λ b. same_var v w ≡ b → length (cond (not b) (w ∷ without v vars) (without v vars)) + 1 ≤ suc (length vars)) [
      | true ↦ λ e. omega (arith, length-without v vars)
      | false ↦ λ e. let less = length-taken v vars (sym (ap (λ b. b || has vars v) (same-back w v ∙ e)) ∙ h) in omega (arith, less)
    ] refl

pub length-with_var : (v : Var) (vars : List Var) → length (with_var v vars) ≤ length vars + 1
length-with_var v [] = omega arith
length-with_var v (w ∷ vars) =
    elim (is_before v w) as (λ b. length (cond b (v ∷ w ∷ vars) (cond (same_var v w) (w ∷ vars) (w ∷ with_var v vars))) ≤ suc (length vars) + 1) [
      | true ↦ omega arith
      | false ↦ elim (same_var v w) as (λ b. length (cond b (w ∷ vars) (w ∷ with_var v vars)) ≤ suc (length vars) + 1) [ true ↦ omega arith | false ↦ omega (arith, length-with_var v vars) ]
    ]

-- a variable that isn't there is put in at its place
place-other : (v : Var) (vars : List Var) (n : ℕ) (d : Var) → has vars v ≡ false → n < length vars → same_var (get_or vars n d) v ≡ false
place-other v [] n d h k = absurd (omega (arith, k))
place-other v (w ∷ vars) zero d h k =
    elim (same_var w v) as (λ b. b || has vars v ≡ false → b ≡ false) [ true ↦ λ e. e | false ↦ λ e. refl ] h
place-other v (w ∷ vars) (suc n) d h k =
    place-other v vars n d (elim (same_var w v) as (λ b. b || has vars v ≡ false → has vars v ≡ false) [ true ↦ λ e. absurd (false≢true (sym e)) | false ↦ λ e. e ] h) (omega (arith, k))

pub inserted : (v : Var) (vars : List Var) → has vars v ≡ false → insert vars (place_of v vars) v ≡ with_var v vars
inserted v vars h = insert-place v vars v (place-other v vars (place_of v vars) v h)

pub with-there : (v : Var) (vars : List Var) → is_rising vars ≡ true → has vars v ≡ true → with_var v vars ≡ vars
with-there v [] h k = absurd (false≢true k)
with-there v (w ∷ vars) h k =
    elim (is_before v w) as (λ b. is_before v w ≡ b → cond b (v ∷ w ∷ vars) (cond (same_var v w) (w ∷ vars) (w ∷ with_var v vars)) ≡ w ∷ vars) [
      | true ↦ λ e.
          let none = not-behind w vars v h (before-back v w e) in
          let same : same_var w v ≡ true = sym (or-false (same_var w v)) ∙ sym (ap (λ b. same_var w v || b) none) ∙ k in
          absurd (false≢true (sym (before-not-same v w e) ∙ same-back v w ∙ same))
      | false ↦ λ e. elim (same_var v w) as (λ b. same_var v w ≡ b → cond b (w ∷ vars) (w ∷ with_var v vars) ≡ w ∷ vars) [
        | true ↦ λ f. refl
        | false ↦ λ f. ap (λ l. w ∷ l) (with-there v vars (rising-tail w vars h) (sym (ap (λ b. b || has vars v) (same-back w v ∙ f)) ∙ k))
      ] refl
    ] refl

get-none : (vars : List Var) (n : ℕ) → length vars ≤ n → slice_get vars n ≡ None
get-none [] n h = refl
get-none (v ∷ vars) zero h = absurd (omega (arith, h))
get-none (v ∷ vars) (suc n) h = get-none vars n (omega (arith, h))

pub there-some : (v : Var) (vars : List Var) (n : ℕ) (w : Var) → is_rising vars ≡ true → n ≡ place_of v vars → n < length vars → w ≡ get_or vars n w → same_var w v ≡ has vars v
there-some v vars n w h e within is =
    ap (λ x. same_var x v) is ∙ sym (ap (is_there v) (slice_get-get_or vars n w within)) ∙ ap (λ k. is_there v (slice_get vars k)) e ∙ there v vars h

pub there-none : (v : Var) (vars : List Var) (n : ℕ) → is_rising vars ≡ true → n ≡ place_of v vars → length vars ≤ n → false ≡ has vars v
there-none v vars n h e past = sym (ap (is_there v) (get-none vars n past)) ∙ ap (λ k. is_there v (slice_get vars k)) e ∙ there v vars h

-- the place that a binary search finds

rising-at : (w : Var) (vars : List Var) (k : ℕ) (d : Var) → is_rising (w ∷ vars) ≡ true → k < length vars → is_before w (get_or vars k d) ≡ true
rising-at w [] k d h within = absurd (omega (arith, within))
rising-at w (x ∷ vars) zero d h within = (and_parts (is_before w x) (is_rising (x ∷ vars)) h).0
rising-at w (x ∷ vars) (suc k) d h within =
    before-trans w x (get_or vars k d) ((and_parts (is_before w x) (is_rising (x ∷ vars)) h).0)
    (rising-at x vars k d ((and_parts (is_before w x) (is_rising (x ∷ vars)) h).1) (omega (arith, within)))

pub rising-parted : (v : Var) (vars : List Var) → is_rising vars ≡ true → IsPartitionedBy (λ w. is_before w v) vars
rising-parted v [] h i j d le within e = absurd (omega (arith, within))
rising-parted v (w ∷ vars) h zero zero d le within e = e
rising-parted v (w ∷ vars) h zero (suc j) d le within e = before-trans w (get_or vars j d) v (rising-at w vars j d h (omega (arith, within))) e
rising-parted v (w ∷ vars) h (suc i) zero d le within e = absurd (omega (arith, le))
rising-parted v (w ∷ vars) h (suc i) (suc j) d le within e =
    rising-parted v vars (rising-tail w vars h) i j d (omega (arith, le)) (omega (arith, within)) e

pub parted-place : (v : Var) (vars : List Var) (n : ℕ) → n ≤ length vars → ((k : ℕ) (d : Var) → k < n → is_before (get_or vars k d) v ≡ true)
    → ((k : ℕ) (d : Var) → n ≤ k → k < length vars → is_before (get_or vars k d) v ≡ false) → n ≡ place_of v vars
parted-place v [] n bound before after = omega (arith, bound)
parted-place v (w ∷ vars) zero bound before after =
    sym (ap (λ b. cond b (place_of v vars + 1) 0) (after 0 w (omega arith) (omega arith)))
parted-place v (w ∷ vars) (suc n) bound before after =
    let more : n ≡ place_of v vars =
    parted-place v vars n (omega (arith, bound)) (λ k d h. before (suc k) d (omega (arith, h))) (λ k d h l. after (suc k) d (omega (arith, h)) (omega (arith, l))) in
    sym (ap (λ b. cond b (place_of v vars + 1) 0) (before 0 w (omega arith)) ∙ add-one (place_of v vars) ∙ ap suc (sym more))
