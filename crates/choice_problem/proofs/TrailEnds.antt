-- Shared: a choice pushed to a trail or popped from it.
use Rattle.std.proofs.Common.{◌≡◌, ℕ, ◌-◌, true, false, cond, List, [], ◌∷◌, ◌++◌, length, take, get_or, Some, None, refl, sym, ap, ◌∙◌, subst, arith, append-nil, length-append}
use Rattle.std.specs.Prelude.{◌≢◌, nat_eq, is_some}
use Rattle.std.specs.List.{filter}
use Rattle.std.proofs.Math.Seq.{take-append_seam}
use Rattle.std.proofs.lemmas.Bool.{false≢true}
use Rattle.std.proofs.lemmas.List.Elements.{filter-append, Contains-get_or}
use Rattle.std.proofs.lemmas.List.Quantifiers.{all_pairs_push}
use Rattle.indexmap.specs.IndexMap.{IndexMap}
use Rattle.keyed_lists.specs.Lists.{all_but_last, items_at}
use Rattle.qualified_goals.specs.declared.variable.Var.{Var}
use Rattle.qualified_goals.specs.Variable.{same_var}
use Rattle.qualified_goals.specs.SameVariable.{same_var-is}
use Rattle.choice_problem.specs.declared.problem.Choice.{Choice}
use Rattle.choice_problem.specs.Table.{entry, with_entry, without_entry}
use Rattle.choice_problem.specs.Trail.{value_in, AreNew, AreOfDifferentVars, IsTrail}
use Rattle.choice_problem.specs.Twins.{is_of_package}
use Rattle.choice_problem.specs.Trail.AreNew.{before_any, one_more}
use Rattle.common_laws.specs.Lists.{pairs-nil}
use Rattle.choice_problem.proofs.TrailLemmas.{value_in-some}

-- a list with one item more

pub snoc-none : {A : Type 0} (front : List A) (x : A) (rest : List A) → [] ≡ front ++ x ∷ rest → ⊥
snoc-none [] x rest h = cc h
snoc-none (f ∷ front) x rest h = cc h

pub snoc-same : {A : Type 0} (xs : List A) (x : A) (ys : List A) (y : A) → xs ++ x ∷ [] ≡ ys ++ y ∷ [] → (xs ≡ ys) × (x ≡ y)
snoc-same [] x [] y h = (refl, cc)
snoc-same [] x (z ∷ ys) y h = absurd (snoc-none ys y [] cc)
snoc-same (w ∷ xs) x [] y h = absurd (snoc-none xs x [] cc)
snoc-same (w ∷ xs) x (z ∷ ys) y h =
    let e : w ≡ z = cc in
    let more = snoc-same xs x ys y cc in
    (ap (λ k. k ∷ xs) e ∙ ap (λ l. z ∷ l) more.0, more.1)

-- what the first choice of a variable has is what counts
none-tail : (x : Choice) (trail : List Choice) (v : Var) → value_in (x ∷ trail) v ≡ None → (same_var x.var v ≡ false) × (value_in trail v ≡ None)
none-tail x trail v h =
    elim (same_var x.var v) as (λ b. cond b (Some x.val) (value_in trail v) ≡ None → (b ≡ false) × (value_in trail v ≡ None)) [
      | true ↦ λ k. absurd (cc k)
      | false ↦ λ k. (refl, k)
    ] h

pub value-push : (front : List Choice) (c : Choice) (v : Var) → value_in front c.var ≡ None
    → value_in (front ++ c ∷ []) v ≡ cond (same_var c.var v) (Some c.val) (value_in front v)
value-push [] c v h = refl
value-push (x ∷ front) c v h =
    let tail = none-tail x front c.var h in
    ap (λ o. cond (same_var x.var v) (Some x.val) o) (value-push front c v tail.1)
    ∙ elim (same_var x.var v) as (λ b. same_var x.var v ≡ b
    → cond b (Some x.val) (cond (same_var c.var v) (Some c.val) (value_in front v)) ≡ cond (same_var c.var v) (Some c.val) (cond b (Some x.val) (value_in front v))) [
      | true ↦ λ e. elim (same_var c.var v) as (λ b. same_var c.var v ≡ b → Some x.val ≡ cond b (Some c.val) (Some x.val)) [
        | true ↦ λ f. absurd (false≢true (sym tail.0 ∙ ap (same_var x.var) (same_var-is c.var v f) ∙ e))
        | false ↦ λ f. refl
      ] refl
      | false ↦ λ e. refl
    ] refl

-- with the value taken out again the map is that of the choices before
pub value-pop : (front : List Choice) (c : Choice) (v : Var) → value_in front c.var ≡ None → cond (same_var c.var v) None (value_in (front ++ c ∷ []) v) ≡ value_in front v
value-pop front c v h =
    ap (λ o. cond (same_var c.var v) None o) (value-push front c v h)
    ∙ elim (same_var c.var v) as (λ b. same_var c.var v ≡ b → cond b None (cond b (Some c.val) (value_in front v)) ≡ value_in front v) [
      | true ↦ λ e. sym (ap (value_in front) (sym (same_var-is c.var v e)) ∙ h)
      | false ↦ λ e. refl
    ] refl

-- choices of variables that are new

pub new-split : {trail : List Choice} → AreNew trail → (trail ≡ [] → ⊥) → (front : List Choice) × (c : Choice) × (trail ≡ front ++ c ∷ [])
new-split before_any some = absurd (some refl)
new-split (one_more {before = before} new d free is) some = (before, d, is)

pub new-front : {trail : List Choice} → AreNew trail → (front : List Choice) (c : Choice) → trail ≡ front ++ c ∷ [] → AreNew front
new-front before_any front c e = absurd (snoc-none front c [] e)
new-front (one_more {before = before} new d free is) front c e = subst (λ (t : List Choice). AreNew t) (snoc-same before d front c (sym is ∙ e)).0 new

pub new-last : {trail : List Choice} → AreNew trail → (front : List Choice) (c : Choice) → trail ≡ front ++ c ∷ [] → value_in front c.var ≡ None
new-last before_any front c e = absurd (snoc-none front c [] e)
new-last (one_more {before = before} new d free is) front c e =
    let same = snoc-same before d front c (sym is ∙ e) in
    ap (λ (t : List Choice). value_in t c.var) (sym same.0) ∙ ap (λ (x : Choice). value_in before x.var) (sym same.1) ∙ free

-- so no two of them are of one variable
pub new-different : {trail : List Choice} → AreNew trail → AreOfDifferentVars trail
new-different before_any = pairs-nil (λ (c d : Choice). c.var ≢ d.var)
new-different (one_more {before = before} new c free is) =
    subst AreOfDifferentVars (sym is)
    (all_pairs_push (λ (x y : Choice). x.var ≢ y.var) before c (new-different new)
    (λ k d low same.
    let chosen : is_some (value_in before (get_or before k d).var) ≡ true = value_in-some before (get_or before k d) (Contains-get_or before k d low) in
    false≢true (sym (ap is_some free) ∙ ap (λ v. is_some (value_in before v)) (sym same) ∙ chosen)))

-- what is kept of a trail

-- the choices of a package's instances, with one choice more
pub instances-push : (front : List Choice) (c : Choice) (n : ℕ) → filter (is_of_package n) (front ++ c ∷ []) ≡ filter (is_of_package n) front ++ filter (is_of_package n) (c ∷ [])
instances-push front c n = filter-append (is_of_package n) front (c ∷ [])

-- and with the last one taken off
last-off : (xs : List Choice) (x : Choice) → all_but_last (xs ++ x ∷ []) ≡ xs
last-off xs x =
    let count : length (xs ++ x ∷ []) - 1 ≡ length xs = omega (arith, length-append xs (x ∷ [])) in
    ap (λ n. take n (xs ++ x ∷ [])) count ∙ take-append_seam xs (x ∷ [])

instances-pop : (front : List Choice) (c : Choice) (n : ℕ) → cond (is_of_package n c) (all_but_last (filter (is_of_package n) (front ++ c ∷ []))) (filter (is_of_package n) (front ++ c ∷ []))
    ≡ filter (is_of_package n) front
instances-pop front c n =
    ap (λ l. cond (is_of_package n c) (all_but_last l) l) (instances-push front c n)
    ∙ elim (is_of_package n c) as (λ b. cond b (all_but_last (filter (is_of_package n) front ++ cond b (c ∷ []) [])) (filter (is_of_package n) front ++ cond b (c ∷ []) []) ≡ filter (is_of_package n) front) [
      | true ↦ last-off (filter (is_of_package n) front) c
      | false ↦ append-nil (filter (is_of_package n) front)
    ]

pub trail-push : {S : Type 0} (front trail : List Choice) (old new : List (Var × ℕ)) (were are : IndexMap ℕ (List Choice) S) (c : Choice) → IsTrail front old were → value_in front c.var ≡ None → trail ≡ front ++ c ∷ []
    → ((v : Var) → entry new v ≡ with_entry c.var c.val (entry old) v) → ((n : ℕ) → items_at nat_eq are n ≡ items_at nat_eq were n ++ filter (is_of_package n) (c ∷ [])) → IsTrail trail new are
trail-push front trail old new were are c h free is updates more = record {
  new = one_more {before = front} h.new c free is;
  values = λ v. updates v ∙ ap (λ o. cond (same_var c.var v) (Some c.val) o) (h.values v) ∙ sym (value-push front c v free) ∙ ap (λ t. value_in t v) (sym is);
  instances_are = λ n.
      more n ∙ ap (λ l. l ++ filter (is_of_package n) (c ∷ [])) (h.instances_are n) ∙ sym (instances-push front c n) ∙ ap (filter (is_of_package n)) (sym is);
}

pub trail-pop : {S : Type 0} (front trail : List Choice) (old new : List (Var × ℕ)) (were are : IndexMap ℕ (List Choice) S) (c : Choice) → IsTrail trail old were → trail ≡ front ++ c ∷ []
    → ((v : Var) → entry new v ≡ without_entry c.var (entry old) v)
    → ((n : ℕ) → items_at nat_eq are n ≡ cond (is_of_package n c) (all_but_last (items_at nat_eq were n)) (items_at nat_eq were n)) → IsTrail front new are
trail-pop front trail old new were are c h is updates less = record {
  new = new-front h.new front c is;
  values = λ v.
      updates v ∙ ap (λ o. cond (same_var c.var v) None o) (h.values v ∙ ap (λ t. value_in t v) is) ∙ value-pop front c v (new-last h.new front c is);
  instances_are = λ n.
      less n ∙ ap (λ l. cond (is_of_package n c) (all_but_last l) l) (h.instances_are n ∙ ap (filter (is_of_package n)) is) ∙ instances-pop front c n;
}

-- where the tables have what they had, so have the choices
pub trail-same : {S : Type 0} (old trail : List Choice) (before after : List (Var × ℕ)) (were are : IndexMap ℕ (List Choice) S) → IsTrail old before were → trail ≡ old
    → ((v : Var) → entry after v ≡ entry before v) → ((n : ℕ) → items_at nat_eq are n ≡ items_at nat_eq were n) → IsTrail trail after are
trail-same old trail before after were are h is values instances = record {
  new = subst (λ (t : List Choice). AreNew t) (sym is) h.new;
  values = λ v. values v ∙ h.values v ∙ ap (λ t. value_in t v) (sym is);
  instances_are = λ n. instances n ∙ h.instances_are n ∙ ap (filter (is_of_package n)) (sym is);
}

pub trail-none : {S : Type 0} (trail : List Choice) (table : List (Var × ℕ)) (instances : IndexMap ℕ (List Choice) S) → trail ≡ [] → ((v : Var) → entry table v ≡ None)
    → ((n : ℕ) → items_at nat_eq instances n ≡ []) → IsTrail trail table instances
trail-none trail table instances is none empty = record {
  new = subst (λ (t : List Choice). AreNew t) (sym is) before_any;
  values = λ v. none v ∙ ap (λ t. value_in t v) (sym is);
  instances_are = λ n. empty n ∙ ap (filter (is_of_package n)) (sym is);
}
