-- The least pair found is the first that disagrees.
use Rattle.std.proofs.Common.{◌≡◌, ℕ, zero, suc, ◌+◌, ◌<◌, ◌≤◌, arith, length, Bool, true, false, cond, List, [], ◌∷◌, ◌++◌, map, Some, None, refl, sym, ap, ◌∙◌, subst, inl, inr, append_assoc, length-append}
use Rattle.std.specs.Prelude.{nat_lt, find}
use Rattle.std.specs.List.{Contains, slice_get}
use Rattle.std.specs.Option.{option_map}
use Rattle.std.proofs.Math.Seq.{get_or-append_seam}
use Rattle.std.proofs.lemmas.List.Elements.{Contains-get_or}
use Rattle.std.proofs.lemmas.Bool.{false≢true, ltb-false, lt-ltb, le-ltb, ltb-true, cases_lt, false_from_ne_true}
use Rattle.std.proofs.lemmas.List.{get_or_append_left}
use Rattle.std.proofs.lemmas.Option.{slice_get_within, slice_get-get_or, slice_get-map}
use Rattle.choice_problem.specs.declared.problem.Choice.{Choice}
use Rattle.choice_problem.specs.declared.problem.Demand.{Demand}
use Rattle.choice_problem.specs.Assignment.{is_yes}
use Rattle.choice_problem.specs.General.{owner_of}
use Rattle.choice_problem.specs.Trail.{value_in}
use Rattle.choice_problem.specs.Conflict.{disagree, pairs_behind, first_clash}
use Rattle.common_laws.specs.Lists.{contains-head, contains-none, contains-map, map-contains, contains-flat_map, flat_map-contains}
use Rattle.choice_problem.proofs.DemandPairs.{disagree-are, are-disagreeing, disagree-back, disagree-self, no-clash}
use Rattle.demand_agreement.specs.declared.clash.Clash.{Clash}
use Rattle.demand_agreement.specs.Places.{no_demand, demand_at, AllBelow}
use Rattle.demand_agreement.specs.Clashes.{AreSuspects, clashing, clash_of, clashes_at, clashes, least}
use Rattle.demand_agreement.proofs.NumberBounds.{below-one}
use Rattle.demand_agreement.proofs.Disagreements.{at-get, get-at, get-front, IsApart, clashing-is, clashing-has}
use Rattle.demand_agreement.proofs.Least.{IsAtMost, least-is, least-none}

-- the first item that passes has a place before which none passes
find-front : {X : Type 0} (test : X → Bool) (xs ys : List X) (k : ℕ) (z : X) → slice_get xs k ≡ Some z → test z ≡ true
    → ((i : ℕ) (y : X) → i < k → slice_get xs i ≡ Some y → test y ≡ false) → find test (xs ++ ys) ≡ Some z
find-front test [] ys k z h passes none = absurd (cc h)
find-front test (x ∷ xs) ys zero z h passes none =
    let e : x ≡ z = cc in
    ap (λ b. cond b (Some x) (find test (xs ++ ys))) (ap test e ∙ passes) ∙ ap Some e
find-front test (x ∷ xs) ys (suc k) z h passes none =
    ap (λ b. cond b (Some x) (find test (xs ++ ys))) (none 0 x (omega arith) refl)
    ∙ find-front test xs ys k z h passes (λ i y less e. none (suc i) y (omega (arith, less)) e)

find-rest : {X : Type 0} (test : X → Bool) (xs ys : List X) → ((x : X) → Contains xs x → test x ≡ false) → find test (xs ++ ys) ≡ find test ys
find-rest test [] ys none = refl
find-rest test (x ∷ xs) ys none =
    ap (λ b. cond b (Some x) (find test (xs ++ ys))) (none x (contains-head x xs)) ∙ find-rest test xs ys (λ y (k, within, is). none y (suc k, omega (arith, within), is))

-- a pair that isn't behind another one

out-later : (c : Clash) (i j : ℕ) → j < c.later → IsAtMost c (record { later = j; earlier = i }) → ⊥
out-later c i j less (inl l) = omega (arith, l, less)
out-later c i j less (inr r) = omega (arith, r.0, less)

out-earlier : (c : Clash) (i j : ℕ) → c.later ≡ j → i < c.earlier → IsAtMost c (record { later = j; earlier = i }) → ⊥
out-earlier c i j at less (inl l) = omega (arith, l, at)
out-earlier c i j at less (inr r) = omega (arith, r.1, less)

contains-get : {X : Type 0} (xs : List X) (x : X) → Contains xs x → (i : ℕ) × (slice_get xs i ≡ Some x)
contains-get xs x (i, within, is) = (i, slice_get-get_or xs i x within ∙ ap Some is)

map-get : (before : List Demand) (d : Demand) (i : ℕ) (x : Demand × Demand) → slice_get (map (λ y. (y, d)) before) i ≡ Some x
    → (y : Demand) × (slice_get before i ≡ Some y) × ((y, d) ≡ x)
map-get [] d i x h = absurd (cc h)
map-get (y ∷ before) d zero x h = (y, refl, cc h)
map-get (y ∷ before) d (suc i) x h = map-get before d i x h

module _ (trail : List Choice) (all : List Demand) where
  -- whether the demands at two places disagree
  abbrev Apart : ℕ → ℕ → Bool
  Apart i j = disagree trail (demand_at all i, demand_at all j)

  -- a pair of places whose demands disagree
  pub record IsPair (c : Clash) : Type 0 where
    pub order : c.earlier < c.later
    pub within : c.later < length all
    pub apart : Apart c.earlier c.later ≡ true

  -- no pair before it disagrees
  pub record IsFirstPair (c : Clash) : Type 0 where
    pub pair : IsPair c
    pub first : (i j : ℕ) → i < j → j < length all → Apart i j ≡ true → IsAtMost c (record { later = j; earlier = i })

  pub first-pair : (c : Clash) → IsFirstPair c → (before ds : List Demand) → all ≡ before ++ ds → length before ≤ c.later
      → find (disagree trail) (pairs_behind before ds) ≡ Some (demand_at all c.earlier, demand_at all c.later)
  first-pair c is before [] e low = absurd (omega (arith, is.pair.within, ap length e, length-append before [], low))
  first-pair c is before (d ∷ rest) e low =
      let here : demand_at all (length before) ≡ d = ap (λ l. demand_at l (length before)) e ∙ get_or-append_seam before d rest no_demand in
      let next : all ≡ (before ++ d ∷ []) ++ rest = e ∙ sym (append_assoc before (d ∷ []) rest) in
      let count : length (before ++ d ∷ []) ≡ suc (length before) = omega (arith, length-append before (d ∷ [])) in
      let size : length all ≡ length before + suc (length rest) = ap length e ∙ length-append before (d ∷ rest) in
      let pairs : List (Demand × Demand) = map (λ x. (x, d)) before in
      let more : List (Demand × Demand) = pairs_behind (before ++ d ∷ []) rest in
      let front = λ (i : ℕ) (x : Demand) (at : slice_get before i ≡ Some x).
      get-at all i x (ap (λ l. slice_get l i) e ∙ get-front before (d ∷ rest) i x at) in
      let none = λ (i : ℕ) (x : Demand) (at : slice_get before i ≡ Some x) (out : IsAtMost c (record { later = length before; earlier = i }) → ⊥).
      false_from_ne_true (disagree trail (x, d)) (λ agreed.
      let within : i < length before = slice_get_within before i x at in
      out (is.first i (length before) within (omega (arith, size))
      (ap (λ y. disagree trail (y, demand_at all (length before))) (front i x at) ∙ ap (λ y. disagree trail (x, y)) here ∙ agreed))) in
      elim (cases_lt (length before) c.later) [
        | inl less ↦
            find-rest {X = Demand × Demand} (disagree trail) pairs more (λ (x : Demand × Demand) (k : Contains pairs x).
            let (y, among, is-pair) = contains-map (λ z. (z, d)) before x k in
            let (i, at) = contains-get before y among in
            subst (λ z. disagree trail z ≡ false) is-pair
            (none i y at (out-later c i (length before) less)))
            ∙ first-pair c is (before ++ d ∷ []) rest next (omega (arith, count, less))
        | inr most ↦
            let at-last : c.later ≡ length before = omega (arith, low, most) in
            let earlier : c.earlier < length before = omega (arith, is.pair.order, at-last) in
            let x = demand_at all c.earlier in
            let at : slice_get before c.earlier ≡ Some x = at-get before c.earlier earlier ∙ ap Some (sym (ap (λ l. demand_at l c.earlier) e ∙ get_or_append_left before (d ∷ rest) no_demand c.earlier earlier)) in
            find-front {X = Demand × Demand} (disagree trail) pairs more c.earlier (x, d)
            (slice_get-map (λ z. (z, d)) before c.earlier ∙ ap (option_map (λ z. (z, d))) at)
            (ap (λ y. disagree trail (x, y)) (sym here ∙ ap (demand_at all) (sym at-last)) ∙ is.pair.apart)
            (λ (i : ℕ) (y : Demand × Demand) (less : i < c.earlier) (got : slice_get pairs i ≡ Some y).
            let (z, at-z, is-pair) = map-get before d i y got in
            subst (λ w. disagree trail w ≡ false) is-pair
            (none i z at-z (out-earlier c i (length before) at-last less)))
            ∙ ap (λ y. Some (x, y)) (sym here ∙ ap (demand_at all) (sym at-last))
      ]

  -- ---- the pairs found

  module _ (active : (d : Demand) → Contains all d → is_yes (value_in trail) d ≡ true) (places : List ℕ) (within : AllBelow (length all) places) where
    yes-at : (k : ℕ) → k < length all → is_yes (value_in trail) (demand_at all k) ≡ true
    yes-at k h = active (demand_at all k) (Contains-get_or all k no_demand h)

    abbrev Found : List Clash
    Found = clashes trail all places

    -- the demand at a place disagrees with those found for it
    apart-at : (place k : ℕ) → IsApart trail all (owner_of (demand_at all place).when) (demand_at all place).target k → Apart place k ≡ true
    apart-at place k h = are-disagreeing trail (demand_at all place) (demand_at all k) (record { must = h.must; values = h.values })

    found-pair : (place k : ℕ) → place < length all → k < length all → Apart place k ≡ true → IsPair (clash_of place k)
    found-pair place k low high h =
        elim (nat_lt place k) as (λ b. nat_lt place k ≡ b → IsPair (cond b (record { later = k; earlier = place }) (record { later = place; earlier = k }))) [
          | true ↦ λ e. record { order = ltb-true place k e; within = high; apart = h }
          | false ↦ λ e.
              let least = ltb-false place k e in
              elim (cases_lt k place) [
                | inl less ↦ record { order = less; within = low; apart = disagree-back trail (demand_at all place) (demand_at all k) h }
                | inr most ↦
                    let same : k ≡ place = omega (arith, least, most) in
                    absurd (false≢true (sym (disagree-self trail (demand_at all place)) ∙ ap (λ n. Apart place n) (sym same) ∙ h))
              ]
        ] refl

    found-sound : (c : Clash) → Contains Found c → IsPair c
    found-sound c h =
        let (place, among, by) = contains-flat_map (clashes_at trail all) places c h in
        let d = demand_at all place in
        let (k, other, is) = contains-map (clash_of place) (clashing trail all (owner_of d.when) d.target) c by in
        let apart = clashing-is trail all (owner_of d.when) d.target k other in
        subst (λ x. IsPair x) is (found-pair place k (below-one (length all) places place within among) apart.within (apart-at place k apart))

    -- a pair that disagrees, with a demand at one of the places, is found
    found-by : (place k : ℕ) → Contains places place → k < length all → Apart place k ≡ true → Contains Found (clash_of place k)
    found-by place k among high h =
        let d = demand_at all place in
        let of = disagree-are trail d (demand_at all k) h in
        let found = clashing-has trail all (owner_of d.when) d.target k (record { within = high; must = of.must; values = of.values }) (yes-at k high) in
        flat_map-contains (clashes_at trail all) places place (clash_of place k) among
        (map-contains (clash_of place) (clashing trail all (owner_of d.when) d.target) k found)

    module _ (suspects : AreSuspects trail all places) where
      found-all : (i j : ℕ) → i < j → j < length all → Apart i j ≡ true → Contains Found (record { later = j; earlier = i })
      found-all i j less high h =
          let low : i < length all = omega (arith, less, high) in
          elim (suspects i j (demand_at all i) (demand_at all j) (at-get all i low) (at-get all j high) h) [
            | inl a ↦ subst (λ b. Contains Found (cond b (record { later = j; earlier = i }) (record { later = i; earlier = j }))) (lt-ltb i j less) (found-by i j a high h)
            | inr b ↦
                let order : i ≤ j = omega (arith, less) in
                subst (λ b. Contains Found (cond b (record { later = i; earlier = j }) (record { later = j; earlier = i }))) (le-ltb j i order)
                (found-by j i b low (disagree-back trail (demand_at all i) (demand_at all j) h))
          ]

      pub some-found : (c : Clash) → least Found ≡ Some c → IsFirstPair c
      some-found c h =
          let of = least-is Found c h in
          record { pair = found-sound c of.member; first = λ i j less high apart. of.least (record { later = j; earlier = i }) (found-all i j less high apart) }

      pub first-found : (c : Clash) → least Found ≡ Some c → first_clash trail all ≡ Some (demand_at all c.earlier, demand_at all c.later)
      unfolding first_clash
      first-found c h = first-pair c (some-found c h) [] all refl (omega arith)

      pub none-found : least Found ≡ None → first_clash trail all ≡ None
      none-found h =
          let empty = least-none Found h in
          no-clash trail all (λ d e i k. false_from_ne_true (disagree trail (d, e)) (λ agreed.
          let (m, at-m) = contains-get all d i in
          let (n, at-n) = contains-get all e k in
          let apart : Apart m n ≡ true = ap (λ x. disagree trail (x, demand_at all n)) (get-at all m d at-m) ∙ ap (λ x. disagree trail (d, x)) (get-at all n e at-n) ∙ agreed in
          elim (suspects m n d e at-m at-n agreed) [
            | inl a ↦ contains-none (clash_of m n) (subst (λ l. Contains l (clash_of m n)) empty (found-by m n a (slice_get_within all n e at-n) apart))
            | inr b ↦ contains-none (clash_of n m)
                (subst (λ l. Contains l (clash_of n m)) empty (found-by n m b (slice_get_within all m d at-m) (disagree-back trail (demand_at all m) (demand_at all n) apart)))
          ]))
