-- Shared: sets of variables as rising lists; two with the same members are equal.
use Rattle.std.proofs.Common.{◌≡◌, suc, ◌+◌, ◌<◌, ◌≤◌, arith, length, get_or, insert, Bool, true, false, cond, ◌&&◌, ◌||◌, List, [], ◌∷◌, ◌++◌, Some, None, refl, sym, ap, ◌∙◌, subst, inl, inr, add-one}
use Rattle.std.specs.List.{Contains, slice_get}
use Rattle.std.proofs.lemmas.Bool.{false≢true, or_right, and_parts, and_from}
use Rattle.std.specs.Cmp.{both_ways}
use Rattle.qualified_goals.specs.declared.variable.Var.{Var}
use Rattle.qualified_goals.specs.Variable.{same_var, is_before}
use Rattle.qualified_goals.specs.SameVariable.{same_var-is, same_var-refl}
use Rattle.choice_problem.specs.ConflictSet.{is_rising, has, with_var, first_of, set_of, union, place_of}
use Rattle.common_laws.specs.Lists.{contains-head, contains-tail, contains-none, contains-cases}
use Rattle.qualified_goals.proofs.GoalOrder.{before-itself, before-trans, before-back, before-neither}

pub same-not : (v w : Var) → (v ≡ w → ⊥) → same_var v w ≡ false
same-not v w h = elim (same_var v w) as (λ b. same_var v w ≡ b → b ≡ false) [ true ↦ λ e. absurd (h (same_var-is v w e)) | false ↦ λ e. refl ] refl

pub before-not-same : (v w : Var) → is_before v w ≡ true → same_var v w ≡ false
before-not-same v w h = same-not v w (λ e. false≢true (sym (before-itself w) ∙ subst (λ x. is_before x w ≡ true) e h))

pub same-back : (v w : Var) → same_var v w ≡ same_var w v
same-back v w =
    elim (same_var v w) as (λ b. same_var v w ≡ b → b ≡ same_var w v) [
      | true ↦ λ e. sym (ap (same_var w) (same_var-is v w e) ∙ same_var-refl w)
      | false ↦ λ e. sym (same-not w v (λ f. false≢true (sym e ∙ ap (same_var v) f ∙ same_var-refl v)))
    ] refl

-- members

pub has-contains : (vars : List Var) (v : Var) → has vars v ≡ true → Contains vars v
has-contains [] v h = absurd (false≢true h)
has-contains (w ∷ vars) v h =
    elim (same_var w v) as (λ b. same_var w v ≡ b → b || has vars v ≡ true → Contains (w ∷ vars) v) [
      | true ↦ λ e k. subst (λ x. Contains (w ∷ vars) x) (same_var-is w v e) (contains-head w vars)
      | false ↦ λ e k. contains-tail w vars v (has-contains vars v k)
    ] refl h

pub contains-has : (vars : List Var) (v : Var) → Contains vars v → has vars v ≡ true
contains-has [] v h = absurd (contains-none v h)
contains-has (w ∷ vars) v h =
    elim (contains-cases w vars v h) [
      | inl e ↦ ap (λ x. same_var x v || has vars v) e ∙ ap (λ b. b || has vars v) (same_var-refl v)
      | inr r ↦ or_right (same_var w v) (has vars v) (contains-has vars v r)
    ]

pub has-append : (xs ys : List Var) (v : Var) → has (xs ++ ys) v ≡ has xs v || has ys v
has-append [] ys v = refl
has-append (x ∷ xs) ys v = elim (same_var x v) as (λ b. b || has (xs ++ ys) v ≡ (b || has xs v) || has ys v) [ true ↦ refl | false ↦ has-append xs ys v ]

or-swap : (a b c : Bool) → a || (b || c) ≡ b || (a || c)
or-swap true true c = refl
or-swap true false c = refl
or-swap false true c = refl
or-swap false false c = refl

pub or-same : (a b : Bool) → a || (a || b) ≡ a || b
or-same true b = refl
or-same false b = refl

pub has-with_var : (v : Var) (vars : List Var) (u : Var) → has (with_var v vars) u ≡ same_var v u || has vars u
has-with_var v [] u = refl
has-with_var v (w ∷ vars) u =
    elim (is_before v w) as (λ b. has (cond b (v ∷ w ∷ vars) (cond (same_var v w) (w ∷ vars) (w ∷ with_var v vars))) u ≡ same_var v u || (same_var w u || has vars u)) [
      | true ↦ refl
      | false ↦ elim (same_var v w) as (λ b. same_var v w ≡ b → has (cond b (w ∷ vars) (w ∷ with_var v vars)) u ≡ same_var v u || (same_var w u || has vars u)) [
        | true ↦ λ e. sym (ap (λ x. same_var x u || (same_var w u || has vars u)) (same_var-is v w e) ∙ or-same (same_var w u) (has vars u))
        | false ↦ λ e. ap (λ b. same_var w u || b) (has-with_var v vars u) ∙ or-swap (same_var w u) (same_var v u) (has vars u)
      ] refl
    ]

pub has-set_of : (vars : List Var) (v : Var) → has (set_of vars) v ≡ has vars v
has-set_of [] v = refl
has-set_of (w ∷ vars) v = has-with_var w (set_of vars) v ∙ ap (λ b. same_var w v || b) (has-set_of vars v)

pub has-union : (xs ys : List Var) (v : Var) → has (union xs ys) v ≡ has xs v || has ys v
has-union xs ys v = has-set_of (xs ++ ys) v ∙ has-append xs ys v

-- order

pub rising-tail : (v : Var) (vars : List Var) → is_rising (v ∷ vars) ≡ true → is_rising vars ≡ true
rising-tail v [] h = refl
rising-tail v (w ∷ vars) h = (and_parts (is_before v w) (is_rising (w ∷ vars)) h).1

-- a variable that isn't before another one, and isn't it, is after it
after-other : (v u : Var) → is_before v u ≡ false → same_var v u ≡ false → is_before u v ≡ true
after-other v u e f =
    elim (is_before u v) as (λ b. is_before u v ≡ b → b ≡ true) [
      | true ↦ λ g. refl
      | false ↦ λ g. absurd (false≢true (sym f ∙ ap (same_var v) (sym (before-neither v u e g)) ∙ same_var-refl v))
    ] refl

rising-with_var-below : (v w : Var) (vars : List Var) → is_before w v ≡ true → is_rising (w ∷ vars) ≡ true → is_rising (w ∷ with_var v vars) ≡ true
rising-with_var-below v w [] below h = and_from (is_before w v) true below refl
rising-with_var-below v w (u ∷ vars) below h =
    let rest = (and_parts (is_before w u) (is_rising (u ∷ vars)) h).1 in
    elim (is_before v u) as (λ b. is_before v u ≡ b → is_rising (w ∷ cond b (v ∷ u ∷ vars) (cond (same_var v u) (u ∷ vars) (u ∷ with_var v vars))) ≡ true) [
      | true ↦ λ e. and_from (is_before w v) (is_before v u && is_rising (u ∷ vars)) below (and_from (is_before v u) (is_rising (u ∷ vars)) e rest)
      | false ↦ λ e. elim (same_var v u) as (λ b. same_var v u ≡ b → is_rising (w ∷ cond b (u ∷ vars) (u ∷ with_var v vars)) ≡ true) [
        | true ↦ λ f. h
        | false ↦ λ f.
            and_from (is_before w u) (is_rising (u ∷ with_var v vars)) ((and_parts (is_before w u) (is_rising (u ∷ vars)) h).0)
            (rising-with_var-below v u vars (after-other v u e f) rest)
      ] refl
    ] refl

pub rising-with_var : (v : Var) (vars : List Var) → is_rising vars ≡ true → is_rising (with_var v vars) ≡ true
rising-with_var v [] h = refl
rising-with_var v (w ∷ vars) h =
    elim (is_before v w) as (λ b. is_before v w ≡ b → is_rising (cond b (v ∷ w ∷ vars) (cond (same_var v w) (w ∷ vars) (w ∷ with_var v vars))) ≡ true) [
      | true ↦ λ e. and_from (is_before v w) (is_rising (w ∷ vars)) e h
      | false ↦ λ e. elim (same_var v w) as (λ b. same_var v w ≡ b → is_rising (cond b (w ∷ vars) (w ∷ with_var v vars)) ≡ true) [
        | true ↦ λ f. h
        | false ↦ λ f. rising-with_var-below v w vars (after-other v w e f) h
      ] refl
    ] refl

pub rising-set_of : (vars : List Var) → is_rising (set_of vars) ≡ true
rising-set_of [] = refl
rising-set_of (v ∷ vars) = rising-with_var v (set_of vars) (rising-set_of vars)

-- what stands behind the first is after it
pub rising-below : (v : Var) (vars : List Var) (u : Var) → is_rising (v ∷ vars) ≡ true → Contains vars u → is_before v u ≡ true
rising-below v [] u h k = absurd (contains-none u k)
rising-below v (w ∷ vars) u h k =
    let first = (and_parts (is_before v w) (is_rising (w ∷ vars)) h).0 in
    elim (contains-cases w vars u k) [
      | inl e ↦ subst (λ x. is_before v x ≡ true) e first
      | inr r ↦ before-trans v w u first (rising-below w vars u ((and_parts (is_before v w) (is_rising (w ∷ vars)) h).1) r)
    ]

rising-not : (v : Var) (vars : List Var) → is_rising (v ∷ vars) ≡ true → has vars v ≡ false
rising-not v vars h =
    elim (has vars v) as (λ b. has vars v ≡ b → b ≡ false) [
      | true ↦ λ e. absurd (false≢true (sym (before-itself v) ∙ rising-below v vars v h (has-contains vars v e)))
      | false ↦ λ e. refl
    ] refl

-- two rising lists with the same members have the same first variable
first-same : (x : Var) (xs : List Var) (y : Var) (ys : List Var) → is_rising (x ∷ xs) ≡ true → is_rising (y ∷ ys) ≡ true
    → Contains (y ∷ ys) x → Contains (x ∷ xs) y → x ≡ y
first-same x xs y ys hx hy inx iny =
    elim (contains-cases y ys x inx) [
      | inl e ↦ sym e
      | inr r ↦ elim (contains-cases x xs y iny) [
        | inl e ↦ e
        | inr q ↦ absurd (false≢true (sym (before-back x y (rising-below x xs y hx q)) ∙ rising-below y ys x hy r))
      ]
    ]

pub rising-same : (xs ys : List Var) → is_rising xs ≡ true → is_rising ys ≡ true → ((v : Var) → has xs v ≡ has ys v) → xs ≡ ys
rising-same [] [] hx hy same = refl
rising-same [] (y ∷ ys) hx hy same = absurd (false≢true (same y ∙ ap (λ b. b || has ys y) (same_var-refl y)))
rising-same (x ∷ xs) [] hx hy same = absurd (false≢true (sym (same x) ∙ ap (λ b. b || has xs x) (same_var-refl x)))
rising-same (x ∷ xs) (y ∷ ys) hx hy same =
    let one = first-same x xs y ys hx hy
    (has-contains (y ∷ ys) x (sym (same x) ∙ contains-has (x ∷ xs) x (contains-head x xs)))
    (has-contains (x ∷ xs) y (same y ∙ contains-has (y ∷ ys) y (contains-head y ys))) in
    let hy' = subst (λ z. is_rising (z ∷ ys) ≡ true) (sym one) hy in
    ap (λ z. z ∷ xs) one ∙ ap (λ l. y ∷ l) (rising-same xs ys (rising-tail x xs hx) (rising-tail y ys hy) (λ v.
    elim (same_var x v) as (λ b. same_var x v ≡ b → has xs v ≡ has ys v) [
      | true ↦ λ e. let is = same_var-is x v e in subst (λ z. has xs z ≡ has ys z) is (rising-not x xs hx ∙ sym (rising-not x ys hy'))
      | false ↦ λ e. let both = same v in
          sym (ap (λ b. b || has xs v) e) ∙ both ∙ ap (λ b. b || has ys v) (ap (λ z. same_var z v) (sym one) ∙ e)
    ] refl))

-- the place at which a variable is put in

pub place-within : (v : Var) (vars : List Var) → place_of v vars ≤ length vars
place-within v [] = omega arith
place-within v (w ∷ vars) = elim (is_before w v) as (λ b. cond b (place_of v vars + 1) 0 ≤ suc (length vars)) [ true ↦ omega (arith, place-within v vars) | false ↦ omega arith ]

pub with_var-there : (v : Var) (vars : List Var) (d : Var) → place_of v vars < length vars → same_var (get_or vars (place_of v vars) d) v ≡ true → with_var v vars ≡ vars
with_var-there v [] d within h = absurd (omega (arith, within))
with_var-there v (w ∷ vars) d within h =
    elim (is_before w v) as (λ b. is_before w v ≡ b → cond b (place_of v vars + 1) 0 < suc (length vars) → same_var (get_or (w ∷ vars) (cond b (place_of v vars + 1) 0) d) v ≡ true
    → cond (is_before v w) (v ∷ w ∷ vars) (cond (same_var v w) (w ∷ vars) (w ∷ with_var v vars)) ≡ w ∷ vars) [
      | true ↦ λ e k l.
          let back = before-back w v e in
          let other = same-back v w ∙ before-not-same w v e in
          ap (λ b. cond b (v ∷ w ∷ vars) (cond (same_var v w) (w ∷ vars) (w ∷ with_var v vars))) back
          ∙ ap (λ b. cond b (w ∷ vars) (w ∷ with_var v vars)) other
          ∙ ap (λ r. w ∷ r) (with_var-there v vars d (omega (arith, k)) (subst (λ n. same_var (get_or (w ∷ vars) n d) v ≡ true) (add-one (place_of v vars)) l))
      | false ↦ λ e k l.
          let one = same_var-is w v l in
          ap (λ b. cond b (v ∷ w ∷ vars) (cond (same_var v w) (w ∷ vars) (w ∷ with_var v vars))) (ap (λ x. is_before x w) (sym one) ∙ before-itself w)
          ∙ ap (λ b. cond b (w ∷ vars) (w ∷ with_var v vars)) (ap (λ x. same_var x w) (sym one) ∙ same_var-refl w)
    ] refl within h

pub insert-place : (v : Var) (vars : List Var) (d : Var) → (place_of v vars < length vars → same_var (get_or vars (place_of v vars) d) v ≡ false) → insert vars (place_of v vars) v ≡ with_var v vars
insert-place v [] d h = refl
insert-place v (w ∷ vars) d h =
    elim (is_before w v) as (λ b. is_before w v ≡ b → (cond b (place_of v vars + 1) 0 < suc (length vars) → same_var (get_or (w ∷ vars) (cond b (place_of v vars + 1) 0) d) v ≡ false)
    → insert (w ∷ vars) (cond b (place_of v vars + 1) 0) v ≡ cond (is_before v w) (v ∷ w ∷ vars) (cond (same_var v w) (w ∷ vars) (w ∷ with_var v vars))) [
      | true ↦ λ e l.
          let back = before-back w v e in
          let other = same-back v w ∙ before-not-same w v e in
          ap (λ n. insert (w ∷ vars) n v) (add-one (place_of v vars))
          ∙ ap (λ r. w ∷ r) (insert-place v vars d (λ k. subst (λ n. same_var (get_or (w ∷ vars) n d) v ≡ false) (add-one (place_of v vars)) (l (omega (arith, k)))))
          ∙ sym (ap (λ b. cond b (v ∷ w ∷ vars) (cond (same_var v w) (w ∷ vars) (w ∷ with_var v vars))) back ∙ ap (λ b. cond b (w ∷ vars) (w ∷ with_var v vars)) other)
      | false ↦ λ e l.
          let first = after-other w v e (l (omega arith)) in
          sym (ap (λ b. cond b (v ∷ w ∷ vars) (cond (same_var v w) (w ∷ vars) (w ∷ with_var v vars))) first)
    ] refl h

-- a rising list is the set of its variables
pub set_of-rising : (vars : List Var) → is_rising vars ≡ true → set_of vars ≡ vars
set_of-rising vars h = rising-same (set_of vars) vars (rising-set_of vars) h (has-set_of vars)

-- sets of the same variables are equal
pub set-same : (xs ys : List Var) → ((v : Var) → has xs v ≡ has ys v) → set_of xs ≡ set_of ys
set-same xs ys same = rising-same (set_of xs) (set_of ys) (rising-set_of xs) (rising-set_of ys) (λ v. has-set_of xs v ∙ same v ∙ sym (has-set_of ys v))

pub set-alike : (xs ys : List Var) → ((v : Var) → Contains xs v → Contains ys v) → ((v : Var) → Contains ys v → Contains xs v) → set_of xs ≡ set_of ys
set-alike xs ys there back =
    set-same xs ys (λ v. both_ways (has xs v) (has ys v) (λ h. contains-has ys v (there v (has-contains xs v h))) (λ h. contains-has xs v (back v (has-contains ys v h))))

-- the first of some variables

pub first-has : (vars : List Var) (v : Var) → first_of vars ≡ Some v → has vars v ≡ true
first-has [] v h = absurd (cc h)
first-has (w ∷ vars) v h = let same : w ≡ v = cc h in contains-has (w ∷ vars) v (subst (λ x. Contains (w ∷ vars) x) same (contains-head w vars))

pub first-none : (vars : List Var) → first_of vars ≡ None → vars ≡ []
first-none [] h = refl
first-none (w ∷ vars) h = absurd (cc h)

pub first-at : (vars : List Var) → slice_get vars 0 ≡ first_of vars
first-at [] = refl
first-at (w ∷ vars) = refl
