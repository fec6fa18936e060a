-- A search against the edges: what it has found, and that it finds all.
use Rattle.std.proofs.Common.{◌≡◌, ℕ, zero, suc, ◌+◌, ◌<◌, ◌≤◌, ◌↔◌, true, false, List, [], ◌∷◌, ◌++◌, Some, length, take, map, slice_get, refl, sym, ap, ◌∙◌, subst, inl, inr, ◌⊎◌, arith, length-append}
use Rattle.std.specs.List.{Contains}
use Rattle.std.proofs.lemmas.Bool.{false≢true, or_cases, or_left, or_right}
use Rattle.std.proofs.lemmas.List.{take-append-le, length-map, take_all}
use Rattle.std.proofs.lemmas.Option.{slice_get_within}
use Rattle.std.specs.Cmp.{both_ways}
use Rattle.qualified_goals.specs.declared.variable.Var.{Var}
use Rattle.qualified_goals.specs.Variable.{same_var}
use Rattle.choice_problem.specs.ConflictSet.{has}
use Rattle.choice_problem.specs.Conflict.{Edge, leads}
use Rattle.qualified_goals.specs.SameVariable.{same_var-is}
use Rattle.common_laws.specs.Lists.{contains-left, contains-right, map-contains, any-from, any-at}
use Rattle.choice_problem.proofs.VariableSets.{has-contains, contains-has}
use Rattle.choice_problem.proofs.EdgePaths.{Way, start, step, leads-way, way-leads}
use Rattle.goal_links.proofs.NamedItems.{get-contains}
use Rattle.demand_cycles.specs.Cycles.{HasEdge, AreAncestors, leads_to_any}
use Rattle.demand_cycles.specs.Side.{IsPartReached}
use Rattle.demand_cycles.specs.VarSet.{with_keys}
use Rattle.demand_cycles.proofs.Keys.{with_keys-once, has-with_keys, with_keys-front, once-within}

pub leads-goal : (edges : List Edge) (goals : List Var) (v w : Var) → Contains goals w → Way edges v w → leads_to_any edges goals v ≡ true
leads-goal edges goals v w h way = any-from (λ (w : Var). leads (length edges) edges v w) goals w h (way-leads edges v w way)

pub goal-of : (edges : List Edge) (goals : List Var) (v : Var) → leads_to_any edges goals v ≡ true → (w : Var) × Contains goals w × Way edges v w
goal-of edges goals v h =
    let found = any-at (λ (w : Var). leads (length edges) edges v w) goals h in
    (found.0, found.1, leads-way (length edges) edges v found.0 found.2)

pub reached-none : (edges : List Edge) (goals : List Var) → IsPartReached edges goals (with_keys [] goals) 0
reached-none edges goals = record {
  within = omega arith;
  once = with_keys-once [] goals refl;
  sound = λ v h. leads-goal edges goals v v (has-contains goals v (sym (has-with_keys [] goals v) ∙ h)) (start refl);
  begun = λ v h. has-with_keys [] goals v ∙ h;
  closed = λ w u h. absurd (false≢true h);
}

-- a member of a prefix with one more item is in the prefix, or is that item
front-cases : (keys : List Var) (place : ℕ) (v w : Var) → slice_get keys place ≡ Some v → has (take (suc place) keys) w ≡ true → (has (take place keys) w ≡ true) ⊎ (v ≡ w)
front-cases [] place v w e h = absurd (false≢true h)
front-cases (x ∷ keys) zero v w e h =
    elim (or_cases (same_var x w) false h) [ inl same ↦ inr (sym (cc e) ∙ same_var-is x w same) | inr none ↦ absurd (false≢true none) ]
front-cases (x ∷ keys) (suc place) v w e h =
    elim (or_cases (same_var x w) (has (take (suc place) keys) w) h) [
      | inl same ↦ inl (or_left (same_var x w) (has (take place keys) w) same)
      | inr rest ↦ elim (front-cases keys place v w e rest) [ inl k ↦ inl (or_right (same_var x w) (has (take place keys) w) k) | inr k ↦ inr k ]
    ]

pub reached-more : (edges : List Edge) (goals keys : List Var) (place : ℕ) (v : Var) (sources : List Var) → IsPartReached edges goals keys place
    → slice_get keys place ≡ Some v → ((u : Var) → (Contains sources u) ↔ (HasEdge edges u v)) → IsPartReached edges goals (with_keys keys sources) (place + 1)
reached-more edges goals keys place v sources part e all =
    let front = with_keys-front keys sources in
    let inside : place < length keys = slice_get_within keys place v e in
    let one : place + 1 ≡ suc place = omega arith in
    let same : take (place + 1) (with_keys keys sources) ≡ take (suc place) keys =
    ap (λ n. take n (with_keys keys sources)) one ∙ ap (take (suc place)) front.1 ∙ take-append-le (suc place) keys front.0 (omega (arith, inside)) in
    let more : (u : Var) → has keys u ≡ true → has (with_keys keys sources) u ≡ true = λ u h. has-with_keys keys sources u ∙ or_left (has keys u) (has sources u) h in
    record {
      within = omega (arith, inside, ap length front.1, length-append keys front.0);
      once = with_keys-once keys sources part.once;
      sound = λ u h. elim (or_cases (has keys u) (has sources u) (sym (has-with_keys keys sources u) ∙ h)) [
        | inl k ↦ part.sound u k
        | inr k ↦
            let edge = (all u).0 (has-contains sources u k) in
            let on = goal-of edges goals v (part.sound v (contains-has keys v (get-contains keys place v e))) in
            leads-goal edges goals u on.0 on.1 (step edge.0 edge.1 edge.2 (subst (λ x. Way edges x on.0) (sym edge.3) on.2))
      ];
      begun = λ u h. more u (part.begun u h);
      closed = λ w u h edge. elim (front-cases keys place v w e (sym (ap (λ l. has l w) same) ∙ h)) [
        | inl k ↦ more u (part.closed w u k edge)
        | inr k ↦ has-with_keys keys sources u ∙ or_right (has keys u) (has sources u) (contains-has sources u ((all u).1 (subst (λ x. HasEdge edges u x) (sym k) edge)))
      ];
    }

-- the same of keys and sources that other names stand for
pub reached-next : (edges : List Edge) (goals keys now : List Var) (place : ℕ) (v : Var) (slice sources : List Var) → IsPartReached edges goals keys place
    → slice_get keys place ≡ Some v → now ≡ with_keys keys slice → slice ≡ sources → ((u : Var) → (Contains sources u) ↔ (HasEdge edges u v)) → IsPartReached edges goals now (place + 1)
reached-next edges goals keys now place v slice sources part e added same all =
    subst (λ l. IsPartReached edges goals l (place + 1)) (sym (added ∙ ap (with_keys keys) same)) (reached-more edges goals keys place v sources part e all)

closed-way : (edges : List Edge) (keys : List Var) → ((w u : Var) → has keys w ≡ true → HasEdge edges u w → has keys u ≡ true)
    → (v w : Var) → Way edges v w → has keys w ≡ true → has keys v ≡ true
closed-way edges keys closed v w (start e) h = ap (has keys) e ∙ h
closed-way edges keys closed v w (step e h k way) g = closed e.to v (closed-way edges keys closed e.to w way g) (e, h, k, refl)

pub reached-all : (edges : List Edge) (goals keys : List Var) (place : ℕ) → IsPartReached edges goals keys place → length keys ≤ place → AreAncestors edges goals keys
reached-all edges goals keys place part done v =
    let whole = take_all place keys done in
    let closed : (w u : Var) → has keys w ≡ true → HasEdge edges u w → has keys u ≡ true = λ w u h edge. part.closed w u (ap (λ l. has l w) whole ∙ h) edge in
    both_ways (has keys v) (leads_to_any edges goals v) (part.sound v) (λ h.
    let on = goal-of edges goals v h in
    closed-way edges keys closed v on.0 on.2 (part.begun on.0 (contains-has goals on.0 on.1)))

-- a variable that leads to a goal is a goal, or has an edge
source-of : (edges : List Edge) (goals : List Var) (v w : Var) → Contains goals w → Way edges v w → Contains (goals ++ map (λ (e : Edge). e.from) edges) v
source-of edges goals v w h (start e) = contains-left goals (map (λ (e : Edge). e.from) edges) v (subst (λ x. Contains goals x) (sym e) h)
source-of edges goals v w h (step e k l way) =
    contains-right goals (map (λ (e : Edge). e.from) edges) v (subst (λ x. Contains (map (λ (e : Edge). e.from) edges) x) l (map-contains (λ (e : Edge). e.from) edges e k))

pub reached-short : (edges : List Edge) (goals keys : List Var) (place : ℕ) → IsPartReached edges goals keys place → length keys ≤ length goals + length edges
reached-short edges goals keys place part =
    let froms = map (λ (e : Edge). e.from) edges in
    let less = once-within keys (goals ++ froms) part.once (λ v h. let on = goal-of edges goals v (part.sound v h) in source-of edges goals v on.0 on.1 on.2) in
    omega (arith, less, length-append goals froms, length-map edges (λ (e : Edge). e.from))
