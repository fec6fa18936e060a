-- The rings of the owners of new demands on cycles decide which demands lie on a cycle.
use Rattle.std.proofs.Common.{◌≡◌, ℕ, ◌+◌, ◌<◌, Bool, true, List, [], ◌∷◌, ◌++◌, Option, Some, None, length, take, drop, get_or, refl, sym, ap, ◌∙◌, subst, inl, inr}
use Rattle.std.specs.List.{Contains}
use Rattle.std.specs.Prelude.{option_to_list}
use Rattle.std.specs.Cmp.{both_ways}
use Rattle.std.proofs.lemmas.List.{take_more}
use Rattle.std.proofs.lemmas.Bool.{false≢true, and_from, and_parts}
use Rattle.qualified_goals.specs.declared.variable.Var.{Var}
use Rattle.choice_problem.specs.declared.problem.Demand.{Demand}
use Rattle.choice_problem.specs.ConflictSet.{has}
use Rattle.choice_problem.specs.Conflict.{Edge, edges_of, lies_on_cycle, circular}
use Rattle.common_laws.specs.Lists.{contains-head, contains-none, contains-cases, contains-append, contains-left, contains-right, any-from, any-at}
use Rattle.choice_problem.proofs.EdgePaths.{Way, start, way-join}
use Rattle.demand_cycles.specs.declared.ring.Ring.{Ring}
use Rattle.demand_cycles.specs.Cycles.{owner_of, owners_on_cycles}
use Rattle.demand_cycles.specs.Ring.{AreRings, IsRingOf, Tells, any_closes, closes, closes_from}
use Rattle.demand_cycles.specs.Side.{reversed}
use Rattle.demand_cycles.proofs.Reached.{leads-goal, goal-of}
use Rattle.demand_cycles.proofs.Sides.{reversed-way, way-reversed, one-of}
use Rattle.demand_cycles.proofs.Rings.{hit-of, lies-led}

-- walks to the variable of a ring and from it

back-way : (edges : List Edge) (a v : Var) (ring : Ring) → IsRingOf edges a ring → has ring.back v ≡ true → Way edges v a
back-way edges a v ring is h =
    let on = goal-of edges (a ∷ []) v (sym (is.back v) ∙ h) in
    subst (Way edges v) (sym (one-of a on.0 on.1)) on.2

way-back : (edges : List Edge) (a v : Var) (ring : Ring) → IsRingOf edges a ring → Way edges v a → has ring.back v ≡ true
way-back edges a v ring is way = is.back v ∙ leads-goal edges (a ∷ []) v a (contains-head a []) way

ahead-way : (edges : List Edge) (a v : Var) (ring : Ring) → IsRingOf edges a ring → has ring.ahead v ≡ true → Way edges a v
ahead-way edges a v ring is h =
    let on = goal-of (reversed edges) (a ∷ []) v (sym (is.ahead v) ∙ h) in
    reversed-way edges v a (subst (Way (reversed edges) v) (sym (one-of a on.0 on.1)) on.2)

way-ahead : (edges : List Edge) (a v : Var) (ring : Ring) → IsRingOf edges a ring → Way edges a v → has ring.ahead v ≡ true
way-ahead edges a v ring is way = is.ahead v ∙ leads-goal (reversed edges) (a ∷ []) v a (contains-head a []) (way-reversed edges a v way)

-- a ring closes an edge iff its variable leads to the edge's start, and the edge's end to it
closed-ways : (edges : List Edge) (a v w : Var) (ring : Ring) → IsRingOf edges a ring → closes ring v w ≡ true → Way edges a v × Way edges w a
closed-ways edges a v w ring is h =
    let both = and_parts (has ring.ahead v) (has ring.back w) h in
    (ahead-way edges a v ring is both.0, back-way edges a w ring is both.1)

ways-closed : (edges : List Edge) (a v w : Var) (ring : Ring) → IsRingOf edges a ring → Way edges a v → Way edges w a → closes ring v w ≡ true
ways-closed edges a v w ring is on back = and_from (has ring.ahead v) (has ring.back w) (way-ahead edges a v ring is on) (way-back edges a w ring is back)

-- a ring that closes an edge gives a walk from the edge's end to its start
any-way : (edges : List Edge) (vars : List Var) (rings : List Ring) (v w : Var) → AreRings edges vars rings → any_closes rings v w ≡ true → Way edges w v
any-way edges vars rings v w are h =
    let found = any-at (λ (ring : Ring). closes ring v w) rings h in
    let of = are.each found.0 found.1 in
    let ways = closed-ways edges of.0 v w found.0 of.1 found.2 in
    way-join edges w of.0 v ways.1 ways.0

-- where one of the variables lies on such a walk, a ring closes the edge
any-closed : (edges : List Edge) (vars : List Var) (rings : List Ring) (v w b : Var) → AreRings edges vars rings → Contains vars b → Way edges w b → Way edges b v → any_closes rings v w ≡ true
any-closed edges vars rings v w b are among back on =
    let found = any-at (λ (ring : Ring). closes ring b b) rings (are.all b among) in
    let of = are.each found.0 found.1 in
    let ways = closed-ways edges of.0 b b found.0 of.1 found.2 in
    any-from (λ (ring : Ring). closes ring v w) rings found.0 found.1
    (ways-closed edges of.0 v w found.0 of.1 (way-join edges of.0 b v ways.0 on) (way-join edges w b of.0 back ways.1))

-- demands with an owner

owner-is : (owner : Option Var) (u : Var) → Contains (option_to_list owner) u → owner ≡ Some u
owner-is None u h = absurd (contains-none u h)
owner-is (Some v) u h = ap Some (one-of v u h)

closed-lies : (edges : List Edge) (vars : List Var) (rings : List Ring) (d : Demand) (owner : Option Var) → AreRings edges vars rings → owner_of d ≡ owner
    → closes_from rings owner d.target ≡ true → lies_on_cycle edges d ≡ true
closed-lies edges vars rings d None are e h = absurd (false≢true h)
closed-lies edges vars rings d (Some u) are e h =
    sym (lies-led edges d u e) ∙ leads-goal edges (u ∷ []) d.target u (contains-head u []) (any-way edges vars rings u d.target are h)

pub rings-tell : (demands : List Demand) (n : ℕ) (rings : List Ring) → circular (take n demands) ≡ []
    → AreRings (edges_of demands) (owners_on_cycles (edges_of demands) (drop n demands)) rings → Tells demands rings
rings-tell demands n rings none are d listed =
    let edges = edges_of demands in
    let vars = owners_on_cycles edges (drop n demands) in
    both_ways (closes_from rings (owner_of d) d.target) (lies_on_cycle edges d)
    (closed-lies edges vars rings d (owner_of d) are refl)
    (λ lies.
    let found = hit-of demands n d none listed lies in
    let hit = found.2 in
    ap (λ owner. closes_from rings owner d.target) (owner-is (owner_of d) found.0 found.1)
    ∙ any-closed edges vars rings found.0 d.target hit.owner are hit.among hit.way hit.on)

-- rings for one variable after another

pub rings-none : (edges : List Edge) (vars : List Var) → AreRings edges (take 0 vars) []
rings-none edges vars = record { each = λ ring h. absurd (contains-none ring h); all = λ v h. absurd (contains-none v h) }

one-more : (edges : List Edge) (vars : List Var) (v : Var) (rings : List Ring) → AreRings edges vars rings → any_closes rings v v ≡ true → AreRings edges (vars ++ v ∷ []) rings
one-more edges vars v rings are h = record {
  each = are.each;
  all = λ u among. elim (contains-append vars (v ∷ []) u among) [ inl k ↦ are.all u k | inr k ↦ subst (λ x. any_closes rings x x ≡ true) (one-of v u k) h ];
}

with-ring : (edges : List Edge) (vars : List Var) (v : Var) (rings : List Ring) (ring : Ring) → AreRings edges vars rings → IsRingOf edges v ring → AreRings edges vars (rings ++ ring ∷ [])
with-ring edges vars v rings ring are is = record {
  each = λ one h. elim (contains-append rings (ring ∷ []) one h) [
    | inl k ↦ are.each one k
    | inr k ↦ elim (contains-cases ring [] one k) [ inl same ↦ (v, subst (IsRingOf edges v) same is) | inr none ↦ absurd (contains-none one none) ]
  ];
  all = λ u among.
      let found = any-at (λ (one : Ring). closes one u u) rings (are.all u among) in
      any-from (λ (one : Ring). closes one u u) (rings ++ ring ∷ []) found.0 (contains-left rings (ring ∷ []) found.0 found.1) found.2;
}

-- a variable that lies on a cycle of a ring already
ring-kept : (edges : List Edge) (vars : List Var) (i : ℕ) (d : Var) (rings : List Ring) → i < length vars → AreRings edges (take i vars) rings
    → any_closes rings (get_or vars i d) (get_or vars i d) ≡ true → AreRings edges (take (i + 1) vars) rings
ring-kept edges vars i d rings within are h = subst (λ l. AreRings edges l rings) (sym (take_more vars i d within)) (one-more edges (take i vars) (get_or vars i d) rings are h)

-- the same by the test of the rings
pub ring-told : (edges : List Edge) (vars : List Var) (i : ℕ) (d : Var) (rings slice : List Ring) (told : Bool) → told ≡ any_closes slice (get_or vars i d) (get_or vars i d) → slice ≡ rings
    → told ≡ true → i < length vars → AreRings edges (take i vars) rings → AreRings edges (take (i + 1) vars) rings
ring-told edges vars i d rings slice told tells same on within are =
    ring-kept edges vars i d rings within are (ap (λ l. any_closes l (get_or vars i d) (get_or vars i d)) (sym same) ∙ sym tells ∙ on)

-- a variable with a new ring
pub ring-added : (edges : List Edge) (vars : List Var) (i : ℕ) (d : Var) (rings : List Ring) (ring : Ring) → i < length vars → AreRings edges (take i vars) rings
    → IsRingOf edges (get_or vars i d) ring → AreRings edges (take (i + 1) vars) (rings ++ ring ∷ [])
ring-added edges vars i d rings ring within are of =
    let v = get_or vars i d in
    let all = rings ++ ring ∷ [] in
    let own = any-from (λ (one : Ring). closes one v v) all ring (contains-right rings (ring ∷ []) ring (contains-head ring []))
    (ways-closed edges v v v ring of (start refl) (start refl)) in
    ring-kept edges vars i d all within (with-ring edges (take i vars) v rings ring are of) own
