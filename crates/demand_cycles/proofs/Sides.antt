-- Searches along the edges and against them, towards each other.
use Rattle.std.proofs.Common.{◌≡◌, ℕ, ◌≤◌, ◌<◌, true, false, not, ◌&&◌, ◌||◌, List, [], ◌∷◌, Some, length, slice_get, refl, sym, ap, ◌∙◌, subst, inl, inr, ◌↔◌, ◌+◌, arith}
use Rattle.std.specs.List.{Contains}
use Rattle.std.specs.Prelude.{nat_lt}
use Rattle.std.proofs.lemmas.Bool.{false≢true, and_cases, and_parts, or_cases, or_left, or_right, ltb-true, ltb-false}
use Rattle.std.proofs.lemmas.List.{length-map}
use Rattle.std.specs.Cmp.{both_ways}
use Rattle.qualified_goals.specs.declared.variable.Var.{Var}
use Rattle.choice_problem.specs.ConflictSet.{has}
use Rattle.choice_problem.specs.Conflict.{Edge}
use Rattle.common_laws.specs.Lists.{contains-head, contains-none, contains-cases, contains-map, map-contains}
use Rattle.choice_problem.proofs.EdgePaths.{Way, start, step, way-join}
use Rattle.demand_cycles.specs.Cycles.{HasEdge, leads_to_any}
use Rattle.demand_cycles.specs.declared.side.Side.{Side}
use Rattle.demand_cycles.specs.Side.{IsSide, IsPartReached, reversed_edge, reversed}
use Rattle.demand_cycles.specs.VarSet.{with_keys}
use Rattle.demand_cycles.proofs.Reached.{leads-goal, goal-of, reached-more, reached-all, reached-short}

-- reversed edges

reversed-edge : (edges : List Edge) (v w : Var) → HasEdge edges v w → HasEdge (reversed edges) w v
reversed-edge edges v w (e, h, from, to) = (reversed_edge e, map-contains reversed_edge edges e h, to, from)

edge-reversed : (edges : List Edge) (v w : Var) → HasEdge (reversed edges) w v → HasEdge edges v w
edge-reversed edges v w (e, h, from, to) =
    let found = contains-map reversed_edge edges e h in
    (found.0, found.1, ap (λ (x : Edge). x.to) found.2 ∙ to, ap (λ (x : Edge). x.from) found.2 ∙ from)

-- the ends of edges from a variable are the starts of reversed edges to it
pub targets-reversed : (edges : List Edge) (from : Var) (targets : List Var) → ((v : Var) → (Contains targets v) ↔ (HasEdge edges from v))
    → (v : Var) → (Contains targets v) ↔ (HasEdge (reversed edges) v from)
targets-reversed edges from targets all v = (
  λ h. reversed-edge edges from v ((all v).0 h),
  λ h. (all v).1 (edge-reversed edges from v h),
)

pub reversed-way : (edges : List Edge) (v w : Var) → Way (reversed edges) v w → Way edges w v
reversed-way edges v w (start e) = start (sym e)
reversed-way edges v w (step e h k way) =
    let found = contains-map reversed_edge edges e h in
    let to = ap (λ (x : Edge). x.from) found.2 ∙ k in
    way-join edges w e.to v (reversed-way edges e.to w way) (step found.0 found.1 (ap (λ (x : Edge). x.to) found.2) (start to))

pub way-reversed : (edges : List Edge) (v w : Var) → Way edges v w → Way (reversed edges) w v
way-reversed edges v w (start e) = start (sym e)
way-reversed edges v w (step e h k way) =
    way-join (reversed edges) w e.to v (way-reversed edges e.to w way) (step (reversed_edge e) (map-contains reversed_edge edges e h) refl (start k))

pub one-of : (goal v : Var) → Contains (goal ∷ []) v → goal ≡ v
one-of goal v h = elim (contains-cases goal [] v h) [ inl same ↦ same | inr none ↦ absurd (contains-none v none) ]

leads-back : (edges : List Edge) (from end : Var) → leads_to_any (reversed edges) (from ∷ []) end ≡ true → leads_to_any edges (end ∷ []) from ≡ true
leads-back edges from end h =
    let on = goal-of (reversed edges) (from ∷ []) end h in
    leads-goal edges (end ∷ []) from end (contains-head end [])
    (subst (λ v. Way edges v end) (sym (one-of from on.0 on.1)) (reversed-way edges end on.0 on.2))

leads-ahead : (edges : List Edge) (from end : Var) → leads_to_any edges (end ∷ []) from ≡ true → leads_to_any (reversed edges) (from ∷ []) end ≡ true
leads-ahead edges from end h =
    let on = goal-of edges (end ∷ []) from h in
    leads-goal (reversed edges) (from ∷ []) end from (contains-head from [])
    (subst (λ v. Way (reversed edges) v from) (sym (one-of end on.0 on.1)) (way-reversed edges from on.0 on.2))

-- a search that found a variable, or is finished, has it iff it leads to a goal
has-led : (edges : List Edge) (goals keys : List Var) (place : ℕ) (v : Var) → IsPartReached edges goals keys place → nat_lt place (length keys) && not (has keys v) ≡ false
    → leads_to_any edges goals v ≡ true → has keys v ≡ true
has-led edges goals keys place v part told h =
    elim (has keys v) as (λ b. has keys v ≡ b → nat_lt place (length keys) && not b ≡ false → b ≡ true) [
      | true ↦ λ e k. refl
      | false ↦ λ e k. elim (and_cases (nat_lt place (length keys)) true k) [
        | inl done ↦ sym e ∙ reached-all edges goals keys place part (ltb-false place (length keys) done) v ∙ h
        | inr never ↦ absurd (false≢true (sym never))
      ]
    ] refl told

-- a search that found a variable, or is finished, decides whether edges lead from it to the goal
pub found-leads : (edges : List Edge) (end : Var) (keys : List Var) (place : ℕ) (v : Var) → IsPartReached edges (end ∷ []) keys place → nat_lt place (length keys) && not (has keys v) ≡ false
    → has keys v ≡ leads_to_any edges (end ∷ []) v
found-leads edges end keys place v part told =
    both_ways (has keys v) (leads_to_any edges (end ∷ []) v) (part.sound v) (has-led edges (end ∷ []) keys place v part told)

-- where two searches aren't apart, whether they have met decides whether edges lead from one to the other
pub met-leads : (edges : List Edge) (from end : Var) (ahead back : List Var) (i j : ℕ) → IsPartReached (reversed edges) (from ∷ []) ahead i → IsPartReached edges (end ∷ []) back j
    → (nat_lt i (length ahead) && not (has ahead end)) && (nat_lt j (length back) && not (has back from)) ≡ false
    → has ahead end || has back from ≡ leads_to_any edges (end ∷ []) from
met-leads edges from end ahead back i j a b told =
    both_ways (has ahead end || has back from) (leads_to_any edges (end ∷ []) from)
    (λ met. elim (or_cases (has ahead end) (has back from) met) [
      | inl k ↦ leads-back edges from end (a.sound end k)
      | inr k ↦ b.sound from k
    ])
    (λ led. elim (and_cases (nat_lt i (length ahead) && not (has ahead end)) (nat_lt j (length back) && not (has back from)) told) [
      | inl k ↦ or_left (has ahead end) (has back from) (has-led (reversed edges) (from ∷ []) ahead i end a k (leads-ahead edges from end led))
      | inr k ↦ or_right (has ahead end) (has back from) (has-led edges (end ∷ []) back j from b k led)
    ])

-- the first of two searches apart isn't finished, and no search follows more variables than there are edges
pub apart-more : (i j : ℕ) (ahead back : List Var) (from end : Var) → (nat_lt i (length ahead) && not (has ahead end)) && (nat_lt j (length back) && not (has back from)) ≡ true → i < length ahead
apart-more i j ahead back from end h =
    let first = (and_parts (nat_lt i (length ahead) && not (has ahead end)) (nat_lt j (length back) && not (has back from)) h).0 in
    ltb-true i (length ahead) ((and_parts (nat_lt i (length ahead)) (not (has ahead end)) first).0)

pub ahead-short : (edges : List Edge) (goal : Var) (keys : List Var) (place : ℕ) → IsPartReached (reversed edges) (goal ∷ []) keys place → length keys ≤ 1 + length edges
ahead-short edges goal keys place part = omega (arith, reached-short (reversed edges) (goal ∷ []) keys place part, length-map edges reversed_edge)

-- a search that followed its next variable is a search
pub gone-on : (edges : List Edge) (old new : Side) (next : Var) (found : List Var) → IsSide edges old → slice_get old.found old.place ≡ Some next → new.end ≡ old.end
    → new.found ≡ with_keys old.found found → new.place ≡ old.place + 1 → ((v : Var) → (Contains found v) ↔ (HasEdge edges v next)) → IsSide edges new
gone-on edges old new next found part is e f g all =
    let more = reached-more edges (old.end ∷ []) old.found old.place next found part is all in
    subst (λ v. IsPartReached edges (v ∷ []) new.found new.place) (sym e)
    (subst (λ l. IsPartReached edges (old.end ∷ []) l new.place) (sym f)
    (subst (λ n. IsPartReached edges (old.end ∷ []) (with_keys old.found found) n) (sym g) more))
