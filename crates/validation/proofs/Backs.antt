-- The view of a trail without its last choice.
use Rattle.std.proofs.Common.{◌≡◌, ℕ, zero, suc, ◌≤◌, arith, length, take, true, false, ◌&&◌, ◌||◌, List, [], ◌∷◌, ◌++◌, refl, sym, ap, ◌∙◌, subst, length-append, Some, None}
use Rattle.std.specs.List.{All, list_any}
use Rattle.std.proofs.lemmas.Bool.{false≢true, and_parts, and_from}
use Rattle.std.proofs.lemmas.Grind.{flat_map-append}
use Rattle.std.proofs.Math.Seq.{take-append_seam}
use Rattle.qualified_goals.specs.declared.variable.Var.{Var}
use Rattle.choice_problem.specs.declared.problem.Choice.{Choice}
use Rattle.choice_problem.specs.declared.problem.Demand.{Demand}
use Rattle.qualified_goals.specs.Variable.{same_var}
use Rattle.choice_problem.specs.Problem.{Problem, IsChoice}
use Rattle.choice_problem.specs.Trail.{AreNew, demands_after, value_in}
use Rattle.choice_problem.specs.Active.{active, made_active}
use Rattle.choice_problem.specs.Conflict.{Edge, edges_by, edges_of, leads, lies_on_cycle, circular, lasting_set}
use Rattle.common_laws.specs.Each.{some-then}
use Rattle.common_laws.specs.Lists.{contains-left, filter-none, filter-nothing}
use Rattle.common_laws.specs.Passing.{any-front}
use Rattle.choice_problem.proofs.ActiveDemands.{active-push}
use Rattle.choice_problem.proofs.ConflictLemmas.{lasting-circular, lasting-agree, lasting-none}
use Rattle.choice_problem.proofs.DemandPairs.{clash-front}
use Rattle.choice_problem.proofs.TrailLemmas.{value_in-kept}
use Rattle.choice_problem.proofs.TrailEnds.{new-split, new-front}
use Rattle.validation.specs.View.{View, Represents, listed_counts, counts_before, view_of}
use Rattle.choice_stack.specs.Stack.{undone, front_of, last_number}
use Rattle.choice_stack.proofs.StackLemmas.{front-of, last-number, seen-same}
use Rattle.choice_problem.proofs.ConflictLemmas.{all-front}
use Rattle.validation.proofs.NextViews.{after-push, counts-push, listed-push}

-- fewer demands have no more cycles

leads-more : (n m : ℕ) (edges more : List Edge) (v w : Var) → n ≤ m → leads n edges v w ≡ true → leads m (edges ++ more) v w ≡ true
leads-more zero zero edges more v w h k = k
leads-more zero (suc m) edges more v w h k = ap (λ b. b || list_any (λ e. same_var e.from v && leads m (edges ++ more) e.to w) (edges ++ more)) k
leads-more (suc n) zero edges more v w h k = absurd (omega (arith, h))
leads-more (suc n) (suc m) edges more v w h k =
    elim (same_var v w) as (λ b. b || list_any (λ e. same_var e.from v && leads n edges e.to w) edges ≡ true
    → b || list_any (λ e. same_var e.from v && leads m (edges ++ more) e.to w) (edges ++ more) ≡ true) [
      | true ↦ λ l. refl
      | false ↦ λ l. any-front (λ e. same_var e.from v && leads m (edges ++ more) e.to w) edges more
          (some-then (λ e. same_var e.from v && leads n edges e.to w) (λ e. same_var e.from v && leads m (edges ++ more) e.to w) edges
          (λ e s. and_from (same_var e.from v) (leads m (edges ++ more) e.to w) ((and_parts (same_var e.from v) (leads n edges e.to w) s).0)
          (leads-more n m edges more e.to w (omega (arith, h)) ((and_parts (same_var e.from v) (leads n edges e.to w) s).1))) l)
    ] k

lies-more : (edges more : List Edge) (d : Demand) → lies_on_cycle edges d ≡ true → lies_on_cycle (edges ++ more) d ≡ true
lies-more edges more d h =
    some-then (λ e. leads (length edges) edges e.to e.from) (λ e. leads (length (edges ++ more)) (edges ++ more) e.to e.from) (edges_by d)
    (λ e k. leads-more (length edges) (length (edges ++ more)) edges more e.to e.from (omega (arith, length-append edges more)) k) h

pub acyclic-front : (xs ys : List Demand) → circular (xs ++ ys) ≡ [] → circular xs ≡ []
unfolding circular
acyclic-front xs ys h = filter-nothing (lies_on_cycle (edges_of xs)) xs (λ d k.
    elim (lies_on_cycle (edges_of xs) d) as (λ b. lies_on_cycle (edges_of xs) d ≡ b → b ≡ false) [
      | true ↦ λ e. absurd (false≢true (
          sym (filter-none (lies_on_cycle (edges_of (xs ++ ys))) (xs ++ ys) h d (contains-left xs ys d k))
          ∙ ap (λ es. lies_on_cycle es d) (flat_map-append edges_by xs ys) ∙ lies-more (edges_of xs) (edges_of ys) d e))
      | false ↦ λ e. refl
    ] refl)

pub lasting-front : (trail front : List Choice) (xs ys : List Demand) → ((v : Var) (n : ℕ) → value_in front v ≡ Some n → value_in trail v ≡ Some n)
    → lasting_set trail (xs ++ ys) ≡ None → lasting_set front xs ≡ None
lasting-front trail front xs ys kept h =
    lasting-none front xs (acyclic-front xs ys (lasting-circular trail (xs ++ ys) h)) (clash-front front trail xs ys kept (lasting-agree trail (xs ++ ys) h))

pub stands-undone : (p : Problem) (x y : View) → Represents p x → (x.trail ≡ [] → ⊥) → y ≡ undone x → Represents p y
stands-undone p x y h some e =
    let split = new-split h.new some in
    let front = split.0 in
    let c = split.1 in
    let was : x ≡ view_of p (front ++ c ∷ []) = h.same ∙ ap (view_of p) split.2 in
    let trail : y.trail ≡ front = ap (λ (s : View). s.trail) e ∙ ap front_of split.2 ∙ front-of front c in
    let listed_marks : x.listed_before ≡ listed_counts p [] front ++ length (demands_after p front) ∷ [] = ap (λ (s : View). s.listed_before) was ∙ listed-push p front c in
    let active_marks : x.active_before ≡ counts_before p [] front ++ length (active p front) ∷ [] = ap (λ (s : View). s.active_before) was ∙ counts-push p front c in
    let all_listed : x.listed ≡ demands_after p front ++ p.demands c = ap (λ (s : View). s.listed) was ∙ after-push p front c in
    let all_active : x.active ≡ active p front ++ made_active p front c = ap (λ (s : View). s.active) was ∙ active-push p front c in
    let listed : y.listed ≡ demands_after p front =
    ap (λ (s : View). s.listed) e ∙ ap (λ n. take n x.listed) (ap last_number listed_marks ∙ last-number (listed_counts p [] front) (length (demands_after p front)))
    ∙ ap (take (length (demands_after p front))) all_listed ∙ take-append_seam (demands_after p front) (p.demands c) in
    let acts : y.active ≡ active p front =
    ap (λ (s : View). s.active) e ∙ ap (λ n. take n x.active) (ap last_number active_marks ∙ last-number (counts_before p [] front) (length (active p front)))
    ∙ ap (take (length (active p front))) all_active ∙ take-append_seam (active p front) (made_active p front c) in
    let were : y.listed_before ≡ listed_counts p [] front =
    ap (λ (s : View). s.listed_before) e ∙ ap front_of listed_marks ∙ front-of (listed_counts p [] front) (length (demands_after p front)) in
    let counts : y.active_before ≡ counts_before p [] front =
    ap (λ (s : View). s.active_before) e ∙ ap front_of active_marks ∙ front-of (counts_before p [] front) (length (active p front)) in
    let same : y ≡ view_of p front =
    seen-same y.trail front y.listed (demands_after p front) y.active (active p front) y.listed_before (listed_counts p [] front) y.active_before
    (counts_before p [] front) trail listed acts were counts in
    record {
      choices = subst (λ (t : List Choice). All (IsChoice p) t) (sym trail)
          (all-front (IsChoice p) front (c ∷ []) (subst (λ (t : List Choice). All (IsChoice p) t) split.2 h.choices));
      new = subst (λ (t : List Choice). AreNew t) (sym trail) (new-front h.new front c split.2);
      same = same ∙ ap (view_of p) (sym trail);
      lasting =
          ap (λ ds. lasting_set y.trail ds) acts
          ∙ lasting-front x.trail y.trail (active p front) (made_active p front c)
          (λ v n e. ap (λ t. value_in t v) split.2 ∙ value_in-kept front (c ∷ []) v n (ap (λ t. value_in t v) (sym trail) ∙ e)) (ap (λ ds. lasting_set x.trail ds) (sym all_active) ∙ h.lasting);
    }
