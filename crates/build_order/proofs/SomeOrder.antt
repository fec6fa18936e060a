-- Shared: step by step the least ready node is placed, until none is ready.
use Rattle.std.proofs.Common.{◌≡◌, inl, inr, ◌+◌, ◌<◌, ◌≤◌, ℕ, zero, suc, Bool, true, false, ◌||◌, if◌then◌else◌, List, [], ◌∷◌, ◌++◌, length, refl, sym, ap, ◌∙◌, subst, arith, append_assoc, append-nil}
use Rattle.std.specs.Prelude.{◌==◌, Contains, slice_index_or}
use Rattle.std.specs.List.{list_all, list_any}
use Rattle.std.proofs.lemmas.Bool.{eqb-false, eqb-true, eq-eqb, or_left, or_right}
use Rattle.std.proofs.lemmas.List.Folds.{list_any-append}
use Rattle.common_laws.specs.Lists.{all-at, all-from, any-at, any-from}
use Rattle.build_order.specs.Order.{IsBuildOrder, IsLeastReady, IsReady}
use Rattle.common_laws.specs.Decidability.{Dec, LeastBelow, is_true, least_below, less}

abbrev has : List ℕ → ℕ → Bool
has placed u = list_any (λ v. v == u) placed

has_it : (placed : List ℕ) (u : ℕ) → has placed u ≡ true → Contains placed u
has_it placed u h = let found = any-at (λ v. v == u) placed h in subst (Contains placed) (eqb-true found.0 u found.2) found.1

it_has : (placed : List ℕ) (u : ℕ) → Contains placed u → has placed u ≡ true
it_has placed u h = any-from (λ v. v == u) placed u h (eq-eqb u u refl)

-- ---- how many aren't placed

abbrev one_unless : Bool → ℕ
one_unless placed = if placed then 0 else 1

abbrev unplaced : List ℕ → ℕ → ℕ
unplaced placed zero = 0
unplaced placed (suc n) = one_unless (has placed n) + unplaced placed n

has_more : (placed : List ℕ) (u n : ℕ) → has (placed ++ u ∷ []) n ≡ (has placed n || ((u == n) || false))
has_more placed u n = list_any-append (λ v. v == n) placed (u ∷ [])

less_by : (a b : Bool) → one_unless (a || b) ≤ one_unless a
less_by true b = omega arith
less_by false true = omega arith
less_by false false = omega arith

fewer : (placed : List ℕ) (u n : ℕ) → unplaced (placed ++ u ∷ []) n ≤ unplaced placed n
fewer placed u zero = omega arith
fewer placed u (suc n) =
    let first = less_by (has placed n) ((u == n) || false) in
    let is = ap one_unless (has_more placed u n) in
    let rest = fewer placed u n in
    omega (arith, first, is, rest)

drops : (placed : List ℕ) (u n : ℕ) → u < n → has placed u ≡ false → unplaced (placed ++ u ∷ []) n < unplaced placed n
drops placed u zero l new = absurd (omega (arith, l))
drops placed u (suc n) l new = by (u == n) refl (λ lower. drops placed u n lower new)
  where
    by : (t : Bool) → (u == n) ≡ t → (u < n → unplaced (placed ++ u ∷ []) n < unplaced placed n) → unplaced (placed ++ u ∷ []) (suc n) < unplaced placed (suc n)
    by true q lower =
        let before : one_unless (has placed n) ≡ 1 = ap (λ w. one_unless (has placed w)) (sym (eqb-true u n q)) ∙ ap one_unless new in
        let after = ap one_unless (has_more placed u n ∙ or_right (has placed n) ((u == n) || false) (or_left (u == n) false q)) in
        let rest = fewer placed u n in
        omega (arith, before, after, rest)
    by false q lower =
        let other = eqb-false u n q in
        let first = less_by (has placed n) ((u == n) || false) in
        let is = ap one_unless (has_more placed u n) in
        let rest = lower (omega (arith, other, l)) in
        omega (arith, first, is, rest)

module _ (needs : List (List ℕ)) where
  -- ---- what is ready

  ready_by : (placed : List ℕ) (u : ℕ) → Dec (u < length needs) → Dec (has placed u ≡ true) → Dec (list_all (has placed) (slice_index_or needs u []) ≡ true) → Dec (IsReady needs placed u)
  ready_by placed u (inl node) (inr new) (inl met) = inl (record {
    node = node;
    unplaced = λ h. new (it_has placed u h);
    met = λ v need. has_it placed v (all-at (has placed) (slice_index_or needs u []) v met need);
  })
  ready_by placed u (inl node) (inr new) (inr denied) =
      inr (λ r. denied (all-from (has placed) (slice_index_or needs u []) (λ v need. it_has placed v (r.met v need))))
  ready_by placed u (inl node) (inl old) met = inr (λ r. r.unplaced (has_it placed u old))
  ready_by placed u (inr denied) old met = inr (λ r. denied r.node)

  is_ready : (placed : List ℕ) (u : ℕ) → Dec (IsReady needs placed u)
  is_ready placed u = ready_by placed u (less u (length needs)) (is_true (has placed u)) (is_true (list_all (has placed) (slice_index_or needs u [])))

  ready_new : (placed : List ℕ) (u : ℕ) → IsReady needs placed u → has placed u ≡ false
  ready_new placed u r = by (has placed u) refl
    where
      by : (t : Bool) → has placed u ≡ t → has placed u ≡ false
      by true q = absurd (r.unplaced (has_it placed u q))
      by false q = q

  ready_drops : (placed : List ℕ) (u : ℕ) → IsReady needs placed u → unplaced (placed ++ u ∷ []) (length needs) < unplaced placed (length needs)
  ready_drops placed u r = drops placed u (length needs) r.node (ready_new placed u r)

  -- ---- an order

  -- each node is the least that is ready after those before it
  abbrev AreLeast : List ℕ → List ℕ → Type 0
  AreLeast placed rest = (front behind : List ℕ) (u : ℕ) → rest ≡ front ++ u ∷ behind → IsLeastReady needs (placed ++ front) u

  abbrev Built : List ℕ → Type 0
  Built placed = (rest : List ℕ) × AreLeast placed rest × ((u : ℕ) → IsReady needs (placed ++ rest) u → ⊥)

  least_none : (placed : List ℕ) → AreLeast placed []
  least_none placed [] behind u e = absurd (cc e)
  least_none placed (x ∷ front) behind u e = absurd (cc e)

  least_first : (placed : List ℕ) (u : ℕ) (rest : List ℕ) → IsLeastReady needs placed u → AreLeast (placed ++ u ∷ []) rest → AreLeast placed (u ∷ rest)
  least_first placed u rest least more [] behind v e =
      let same : u ≡ v = cc e in
      subst (IsLeastReady needs (placed ++ [])) same (subst (λ front. IsLeastReady needs front u) (sym (append-nil placed)) least)
  least_first placed u rest least more (x ∷ front) behind v e =
      let same : u ≡ x = cc e in
      let others : rest ≡ front ++ v ∷ behind = cc e in
      subst (λ y. IsLeastReady needs (placed ++ y ∷ front) v) same
      (subst (λ all. IsLeastReady needs all v) (append_assoc placed (u ∷ []) front) (more front behind v others))

  ends : (placed : List ℕ) → ((u : ℕ) → u < length needs → IsReady needs placed u → ⊥) → Built placed
  ends placed none = ([], least_none placed, λ u r. let all = subst (λ front. IsReady needs front u) (append-nil placed) r in none u all.node all)

  goes_on : (placed : List ℕ) (u : ℕ) → IsLeastReady needs placed u → Built (placed ++ u ∷ []) → Built placed
  goes_on placed u least more = (
    u ∷ more.0,
    least_first placed u more.0 least more.1,
    λ v r. more.2 v (subst (λ all. IsReady needs all v) (sym (append_assoc placed (u ∷ []) more.0)) r),
  )

  built_by : (placed : List ℕ) → LeastBelow (IsReady needs placed) (length needs) → ((u : ℕ) → IsReady needs placed u → Built (placed ++ u ∷ [])) → Built placed
  built_by placed (inl found) more = goes_on placed found.0 (record { ready = found.1; least = found.2 }) (more found.0 found.1)
  built_by placed (inr none) more = ends placed none

  build : (fuel : ℕ) (placed : List ℕ) → unplaced placed (length needs) ≤ fuel → Built placed
  build zero placed low =
      built_by placed (least_below (IsReady needs placed) (length needs) (is_ready placed))
      (λ u r. absurd (let less = ready_drops placed u r in omega (arith, low, less)))
  build (suc fuel) placed low =
      built_by placed (least_below (IsReady needs placed) (length needs) (is_ready placed))
      (λ u r. let less = ready_drops placed u r in build fuel (placed ++ u ∷ []) (omega (arith, low, less)))

  pub some_order : (order : List ℕ) × IsBuildOrder needs order
  some_order =
      let built = build (unplaced [] (length needs)) [] (omega arith) in
      (built.0, record { each = built.1; whole = built.2 })
