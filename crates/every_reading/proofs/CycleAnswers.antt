-- A graph has a first node on a cycle, or none. Paths are found by the highest node that they may pass through.
use Rattle.std.proofs.Common.{◌≡◌, ◌⊎◌, inl, inr, ◌<◌, ◌≤◌, ℕ, zero, suc, Bool, true, false, ◌&&◌, ◌||◌, List, [], length, Option, Some, None, refl, sym, ap, ◌∙◌, subst, arith}
use Rattle.std.specs.Prelude.{◌==◌, nat_lt, slice_index_or}
use Rattle.std.specs.List.{list_any}
use Rattle.std.proofs.lemmas.Bool.{and_from, and_parts, eq-eqb, eqb-true, eqb-false, false≢true, ltb-false, ltb-true, or_cases, or_left, or_right}
use Rattle.common_laws.specs.Graphs.{IsPath, last, more, Needs, needs_within}
use Rattle.common_laws.specs.Lists.{any-at, any-from}
use Rattle.component_cycle.specs.Cycle.{IsFirstOnCycle, IsOnCycle}

joined : {X : Type 0} (Edge : X → X → Type 0) (u v w : X) → IsPath Edge u v → IsPath Edge v w → IsPath Edge u w
joined Edge u v w (last e) q = more e q
joined Edge u v w (more {w = x} e p) q = more e (joined Edge x v w p q)

-- ---- the least number that passes

abbrev HasLeast : (ℕ → Bool) → ℕ → Type 0
HasLeast test n = ((u : ℕ) × (test u ≡ true) × ((v : ℕ) → v < u → test v ≡ false)) ⊎ ((v : ℕ) → v < n → test v ≡ false)

-- a test that fails below a number, and at it, fails below the next one
pub below_more : (test : ℕ → Bool) (n : ℕ) → ((v : ℕ) → v < n → test v ≡ false) → test n ≡ false → (v : ℕ) → v < suc n → test v ≡ false
below_more test n none q v l = by (v == n) refl
  where
    by : (t : Bool) → (v == n) ≡ t → test v ≡ false
    by true e = ap test (eqb-true v n e) ∙ q
    by false e = let other = eqb-false v n e in none v (omega (arith, other, l))

least_by : (test : ℕ → Bool) (n : ℕ) → HasLeast test n → (t : Bool) → test n ≡ t → HasLeast test (suc n)
least_by test n (inl found) t q = inl found
least_by test n (inr none) true q = inl (n, q, none)
least_by test n (inr none) false q = inr (below_more test n none q)

least : (test : ℕ → Bool) (n : ℕ) → HasLeast test n
least test zero = inr (λ v l. absurd (omega (arith, l)))
least test (suc n) = least_by test n (least test n) (test n) refl

module _ (needs : List (List ℕ)) where
  -- there is a path from u to v whose inner nodes are all below n
  abbrev through : ℕ → ℕ → ℕ → Bool
  through zero u v = list_any (λ w. w == v) (slice_index_or needs u [])
  through (suc n) u v = through n u v || (through n u n && through n n v)

  edge_from : (u v : ℕ) → through zero u v ≡ true → Needs needs u v
  edge_from u v h =
      let found = any-at (λ w. w == v) (slice_index_or needs u []) h in
      subst (Needs needs u) (eqb-true found.0 v found.2) found.1

  edge_to : (u v : ℕ) → Needs needs u v → through zero u v ≡ true
  edge_to u v h = any-from (λ w. w == v) (slice_index_or needs u []) v h (eq-eqb v v refl)

  sound : (n u v : ℕ) → through n u v ≡ true → IsPath (Needs needs) u v
  sound zero u v h = last (edge_from u v h)
  sound (suc n) u v h =
      elim (or_cases (through n u v) (through n u n && through n n v) h) [
        | inl direct ↦ sound n u v direct
        | inr both ↦ let p = and_parts (through n u n) (through n n v) both in joined (Needs needs) u n v (sound n u n p.0) (sound n n v p.1)
      ]

  wider : (n u v : ℕ) → through n u v ≡ true → through (suc n) u v ≡ true
  wider n u v h = or_left (through n u v) (through n u n && through n n v) h

  by_node : (n u v : ℕ) → through n u n ≡ true → through n n v ≡ true → through (suc n) u v ≡ true
  by_node n u v h k = or_right (through n u v) (through n u n && through n n v) (and_from (through n u n) (through n n v) h k)

  to_node : (n u : ℕ) → through (suc n) u n ≡ true → through n u n ≡ true
  to_node n u h = elim (or_cases (through n u n) (through n u n && through n n n) h) [ inl k ↦ k | inr both ↦ (and_parts (through n u n) (through n n n) both).0 ]

  from_node : (n v : ℕ) → through (suc n) n v ≡ true → through n n v ≡ true
  from_node n v h = elim (or_cases (through n n v) (through n n n && through n n v) h) [ inl k ↦ k | inr both ↦ (and_parts (through n n n) (through n n v) both).1 ]

  abbrev Joins : ℕ → Type 0
  Joins n = (u w v : ℕ) → w < n → through n u w ≡ true → through n w v ≡ true → through n u v ≡ true

  -- a path to a lower node, continued from it
  over_lower : (n : ℕ) → Joins n → (u w v : ℕ) → w < n → through (suc n) u w ≡ true → through (suc n) w v ≡ true → through (suc n) u v ≡ true
  over_lower n join u w v l h k =
      by (or_cases (through n u w) (through n u n && through n n w) h) (or_cases (through n w v) (through n w n && through n n v) k)
    where
      by : (through n u w ≡ true) ⊎ ((through n u n && through n n w) ≡ true) → (through n w v ≡ true) ⊎ ((through n w n && through n n v) ≡ true) → through (suc n) u v ≡ true
      by (inl a) (inl b) = wider n u v (join u w v l a b)
      by (inl a) (inr b) = let q = and_parts (through n w n) (through n n v) b in by_node n u v (join u w n l a q.0) q.1
      by (inr a) (inl b) = let p = and_parts (through n u n) (through n n w) a in by_node n u v p.0 (join n w v l p.1 b)
      by (inr a) (inr b) =
          let p = and_parts (through n u n) (through n n w) a in
          let q = and_parts (through n w n) (through n n v) b in
          by_node n u v p.0 q.1

  join_by : (n : ℕ) → Joins n → (u w v : ℕ) → w < suc n → (t : Bool) → (w == n) ≡ t → through (suc n) u w ≡ true → through (suc n) w v ≡ true → through (suc n) u v ≡ true
  join_by n join u w v l true e h k =
      let same = eqb-true w n e in
      by_node n u v (to_node n u (subst (λ x. through (suc n) u x ≡ true) same h)) (from_node n v (subst (λ x. through (suc n) x v ≡ true) same k))
  join_by n join u w v l false e h k = let other = eqb-false w n e in over_lower n join u w v (omega (arith, other, l)) h k

  joins : (n : ℕ) → Joins n
  joins zero u w v l h k = absurd (omega (arith, l))
  joins (suc n) u w v l h k = join_by n (joins n) u w v l (w == n) refl h k

  from_edge : (n u v : ℕ) → Needs needs u v → through n u v ≡ true
  from_edge zero u v h = edge_to u v h
  from_edge (suc n) u v h = wider n u v (from_edge n u v h)

  start_within : (u v : ℕ) → IsPath (Needs needs) u v → u < length needs
  start_within u v (last e) = needs_within needs u v e
  start_within u v (more {w = w} e p) = needs_within needs u w e

  complete : (u v : ℕ) → IsPath (Needs needs) u v → through (length needs) u v ≡ true
  complete u v (last e) = from_edge (length needs) u v e
  complete u v (more {w = w} e p) = joins (length needs) u w v (start_within w v p) (from_edge (length needs) u w e) (complete w v p)

  not_below : (u : ℕ) → ((v : ℕ) → v < u → through (length needs) v v ≡ false) → (v : ℕ) → IsOnCycle needs v → u ≤ v
  not_below u none v cycle = by (nat_lt v u) refl
    where
      by : (t : Bool) → nat_lt v u ≡ t → u ≤ v
      by true q = absurd (false≢true (sym (none v (ltb-true v u q)) ∙ complete v v cycle))
      by false q = ltb-false v u q

  pub some_first : (circular : Option ℕ) × IsFirstOnCycle needs circular
  some_first =
      elim (least (λ u. through (length needs) u u) (length needs)) [
        | inl found ↦ (Some found.0, (sound (length needs) found.0 found.0 found.1, not_below found.0 found.2))
        | inr none ↦ (None, λ u cycle. false≢true (sym (none u (start_within u u cycle)) ∙ complete u u cycle))
      ]
