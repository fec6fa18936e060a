-- The demands that may disagree after a choice.
use Rattle.std.proofs.Common.{◌≡◌, ℕ, zero, suc, ◌+◌, ◌-◌, ◌<◌, ◌≤◌, arith, length, true, false, cond, List, [], ◌∷◌, ◌++◌, take, Option, Some, None, refl, sym, ap, ◌∙◌, subst, inl, inr, ◌⊎◌}
use Rattle.std.specs.List.{Contains, slice_get}
use Rattle.std.specs.Prelude.{nat_eq}
use Rattle.std.proofs.lemmas.Bool.{false≢true, and_parts, and_from, cases_lt, eq-eqb, false_from_ne_true}
use Rattle.std.proofs.lemmas.List.{take_more, length-take-le}
use Rattle.std.proofs.lemmas.Option.{slice_get_within, get_or_from_slice_get}
use Rattle.qualified_goals.specs.declared.variable.Var.{Var}
use Rattle.qualified_goals.specs.Variable.{same_var}
use Rattle.qualified_goals.specs.SameVariable.{same_var-is, same_var-refl}
use Rattle.choice_problem.specs.declared.problem.Choice.{Choice}
use Rattle.choice_problem.specs.declared.problem.Demand.{Demand}
use Rattle.choice_problem.specs.Assignment.{is_yes}
use Rattle.choice_problem.specs.Conflict.{disagree, first_clash}
use Rattle.choice_problem.specs.General.{owner_of}
use Rattle.choice_problem.specs.Active.{asks_for}
use Rattle.choice_problem.specs.Trail.{choice_of, value_in}
use Rattle.choice_problem.specs.Twins.{differ, is_of_package, is_whole, under}
use Rattle.common_laws.specs.Lists.{contains-head, contains-tail, contains-left, contains-right, contains-append, contains-cases, contains-filter, contains-none, filter-contains}
use Rattle.choice_problem.proofs.ActiveDemands.{yes-kept}
use Rattle.choice_problem.proofs.DemandPairs.{agree-are, are-twins, differ-are, disagree-are, disagree-back, are-disagreeing, none-apart}
use Rattle.choice_problem.proofs.TrailEnds.{value-push}
use Rattle.choice_problem.proofs.TrailLemmas.{value_in-made}
use Rattle.goal_links.proofs.NamedItems.{get-contains}
use Rattle.demand_agreement.specs.Places.{no_demand, places_from, places_on}
use Rattle.demand_agreement.specs.Clashes.{AreSuspects}
use Rattle.demand_agreement.proofs.NumberBounds.{places-below}
use Rattle.demand_agreement.proofs.Disagreements.{get-at, owner-chosen, place-is, place-there, twin-of}
use Rattle.choice_stack.specs.declared.addition.Addition.{Addition}
use Rattle.validation.specs.View.{View}
use Rattle.validation.specs.Pending.{ArePending, IsFirstInstance, place_if}
use Rattle.choice_stack.specs.Stack.{AllBelow, is_first, is_owned_by, is_turned, made, names, rising_from, turned}
use Rattle.choice_stack.proofs.DemandPlaces.{below-more, below-append}
use Rattle.choice_stack.proofs.OpenVariables.{get-right}
use Rattle.validation.proofs.Weighed.{fresh-owned, pending-active, pending-count, pending-length}

-- an item of the first of two lists
get-left : {X : Type 0} (xs ys : List X) (i : ℕ) (x : X) → i < length xs → slice_get (xs ++ ys) i ≡ Some x → slice_get xs i ≡ Some x
get-left [] ys i x less h = absurd (omega (arith, less))
get-left (y ∷ xs) ys zero x less h = h
get-left (y ∷ xs) ys (suc i) x less h = get-left xs ys i x (omega (arith, less)) h

-- places, one after another

pub rising-push : (n count : ℕ) → rising_from n (suc count) ≡ rising_from n count ++ (n + count) ∷ []
rising-push n zero = ap (λ k. k ∷ []) (omega arith)
rising-push n (suc count) = ap (λ l. n ∷ l) (rising-push (suc n) count ∙ ap (λ k. rising_from (suc n) count ++ k ∷ []) (omega arith))

pub rising-below : (n count m : ℕ) → n + count ≤ m → AllBelow m (rising_from n count)
rising-below n zero m h = tt
rising-below n (suc count) m h = (let less : n < m = omega (arith, h) in less, rising-below (suc n) count m (omega (arith, h)))

rising-from : (n count k : ℕ) → Contains (rising_from n count) k → n ≤ k
rising-from n zero k h = absurd (contains-none k h)
rising-from n (suc count) k h =
    elim (contains-cases n (rising_from (suc n) count) k h) [ inl same ↦ omega (arith, same) | inr rest ↦ omega (arith, rising-from (suc n) count k rest) ]

pub rising-has : (n count k : ℕ) → n ≤ k → k < n + count → Contains (rising_from n count) k
rising-has n zero k low high = absurd (omega (arith, low, high))
rising-has n (suc count) k low high =
    elim (cases_lt n k) [
      | inl less ↦ contains-tail n (rising_from (suc n) count) k (rising-has (suc n) count k (omega (arith, less)) (omega (arith, high)))
      | inr least ↦
          let same : n ≡ k = omega (arith, low, least) in
          subst (λ m. Contains (n ∷ rising_from (suc n) count) m) same (contains-head n (rising_from (suc n) count))
    ]

-- the places of the demands of two lists

pub places-append : (n : ℕ) (v : Var) (xs ys : List Demand) → places_from n v (xs ++ ys) ≡ places_from n v xs ++ places_from (n + length xs) v ys
places-append n v [] ys = ap (λ k. places_from k v ys) (omega arith)
places-append n v (x ∷ xs) ys =
    let more = places-append (suc n) v xs ys ∙ ap (λ k. places_from (suc n) v xs ++ places_from k v ys) (omega arith) in
    ap (λ l. cond (asks_for v x) (n ∷ l) l) more
    ∙ elim (asks_for v x) as (λ b. cond b (n ∷ places_from (suc n) v xs ++ places_from (n + suc (length xs)) v ys) (places_from (suc n) v xs ++ places_from (n + suc (length xs)) v ys)
    ≡ cond b (n ∷ places_from (suc n) v xs) (places_from (suc n) v xs) ++ places_from (n + suc (length xs)) v ys) [ true ↦ refl | false ↦ refl ]

pub places-next : (v : Var) (ds : List Demand) (n : ℕ) (d : Demand) → slice_get ds n ≡ Some d → places_on v (take (n + 1) ds) ≡ places_on v (take n ds) ++ place_if n v d
places-next v ds n d at =
    let within = slice_get_within ds n d at in
    let size : length (take n ds) ≡ n = length-take-le n ds (omega (arith, within)) in
    let count : 0 + length (take n ds) ≡ n = omega (arith, size) in
    ap (places_on v) (take_more ds n no_demand within ∙ ap (λ x. take n ds ++ x ∷ []) (get_or_from_slice_get ds n d no_demand at))
    ∙ places-append 0 v (take n ds) (d ∷ []) ∙ ap (λ k. places_on v (take n ds) ++ places_from k v (d ∷ [])) count

module _ (s : View) (a : Addition) (woken fresh : List Demand) (count : ℕ) (h : ArePending s a woken fresh count) where
  abbrev after : List Choice
  after = s.trail ++ a.choice ∷ []

  abbrev all : List Demand
  all = (made s a.choice a.demands).active

  turned-yes : (ds : List Demand) (d : Demand) → Contains (turned after a.choice.var ds) d → is_yes (value_in after) d ≡ true
  turned-yes ds d k = (and_parts (names a.choice.var d) (is_yes (value_in after) d) (contains-filter (is_turned after a.choice.var) ds d k).1).1

  pub pending-yes : (d : Demand) → Contains all d → is_yes (value_in after) d ≡ true
  pending-yes d k =
      elim (contains-append s.active (woken ++ fresh) d (subst (λ (ds : List Demand). Contains ds d) (pending-active s a woken fresh count h) k)) [
        | inl l ↦ yes-kept s.trail (a.choice ∷ []) d ((h.settled d).0 l).1
        | inr r ↦ elim (contains-append woken fresh d r) [
          | inl w ↦ turned-yes s.listed d (subst (λ (ds : List Demand). Contains ds d) h.woken_is w)
          | inr f ↦ turned-yes a.demands d (subst (λ (ds : List Demand). Contains ds d) h.fresh_is f)
        ]
      ]

  -- the demands that may disagree
  abbrev pub suspected : List ℕ
  suspected = places_on a.choice.var s.active ++ rising_from (length s.active) (count - length s.active)

  pub suspected-below : AllBelow (length all) suspected
  suspected-below =
      let size : length all ≡ count = sym (pending-count s a woken fresh count h) in
      let more : length s.active ≤ count = omega (arith, h.counted) in
      below-append (length all) (places_on a.choice.var s.active) (rising_from (length s.active) (count - length s.active))
      (below-more (length s.active) (length all) (places_on a.choice.var s.active) (omega (arith, size, more)) (places-below 0 (length s.active) a.choice.var s.active (omega arith)))
      (rising-below (length s.active) (count - length s.active) (length all) (omega (arith, size, more)))

  -- another variable keeps its value
  stays : (v : Var) → same_var a.choice.var v ≡ false → value_in after v ≡ value_in s.trail v
  stays v other = value-push s.trail a.choice v h.free ∙ ap (λ b. cond b (Some a.choice.val) (value_in s.trail v)) other

  old-at : (i : ℕ) (d : Demand) → i < length s.active → slice_get all i ≡ Some d → slice_get s.active i ≡ Some d
  old-at i d less at = get-left s.active (woken ++ fresh) i d less (ap (λ (ds : List Demand). slice_get ds i) (sym (pending-active s a woken fresh count h)) ∙ at)

  asked-at : (i : ℕ) (d : Demand) → slice_get s.active i ≡ Some d → same_var a.choice.var d.target ≡ true → Contains suspected i
  asked-at i d at same =
      contains-left (places_on a.choice.var s.active) (rising_from (length s.active) (count - length s.active)) i
      (let start : 0 + i ≡ i = omega arith in
      subst (λ n. Contains (places_on a.choice.var s.active) n) start (place-there 0 a.choice.var s.active i d at (sym (same_var-is a.choice.var d.target same))))

  new-at : (i : ℕ) (d : Demand) → slice_get all i ≡ Some d → length s.active ≤ i → Contains suspected i
  new-at i d at low =
      let within = slice_get_within all i d at in
      contains-right (places_on a.choice.var s.active) (rising_from (length s.active) (count - length s.active)) i
      (rising-has (length s.active) (count - length s.active) i low (omega (arith, within, pending-count s a woken fresh count h, low)))

  pub are-suspected : first_clash s.trail s.active ≡ None → AreSuspects after all suspected
  are-suspected none i j d e at-i at-j agreed =
      elim (cases_lt i (length s.active)) [
        | inr new ↦ inl (new-at i d at-i new)
        | inl old-i ↦ elim (cases_lt j (length s.active)) [
          | inr new ↦ inr (new-at j e at-j new)
          | inl old-j ↦
              let was-i = old-at i d old-i at-i in
              let was-j = old-at j e old-j at-j in
              elim (same_var a.choice.var d.target) as (λ b. same_var a.choice.var d.target ≡ b → Contains suspected i ⊎ Contains suspected j) [
                | true ↦ λ same. inl (asked-at i d was-i same)
                | false ↦ λ other. elim (same_var a.choice.var e.target) as (λ b. same_var a.choice.var e.target ≡ b → Contains suspected i ⊎ Contains suspected j) [
                  | true ↦ λ same. inr (asked-at j e was-j same)
                  | false ↦ λ apart.
                      let of = disagree-are after d e agreed in
                      let before : differ (value_in s.trail d.target) (value_in s.trail e.target) ≡ true =
                      ap (λ o. differ o (value_in s.trail e.target)) (sym (stays d.target other)) ∙ ap (differ (value_in after d.target)) (sym (stays e.target apart)) ∙ of.values in
                      absurd (false≢true (sym (none-apart s.trail s.active d e none (get-contains s.active i d was-i) (get-contains s.active j e was-j))
                      ∙ are-disagreeing s.trail d e (record { must = of.must; values = before })))
                ] refl
              ] refl
        ]
      ]

  -- the demands that would become active and aren't the choice's own
  abbrev pub woken-ones : List ℕ
  woken-ones = rising_from (length s.active) (length woken)

  pub woken-below : AllBelow (length all) woken-ones
  woken-below = rising-below (length s.active) (length woken) (length all) (omega (arith, pending-length s a woken fresh count h))

  -- the first instance of a package is its only one

  only-one : IsFirstInstance s.trail a.choice.var → (c : Choice) → Contains after c → is_of_package a.choice.var.«package» c ≡ true → same_var a.choice.var c.var ≡ false → ⊥
  only-one first c k of other =
      elim (contains-append s.trail (a.choice ∷ []) c k) [
        | inl old ↦ contains-none c (subst (λ (l : List Choice). Contains l c) first.1 (filter-contains (is_of_package a.choice.var.«package») s.trail c old of))
        | inr new ↦ elim (contains-cases a.choice [] c new) [
          | inl same ↦ false≢true (sym other ∙ ap (λ (x : Choice). same_var a.choice.var x.var) (sym same) ∙ same_var-refl a.choice.var)
          | inr none ↦ contains-none c none
        ]
      ]

  differ-self : (o : Option ℕ) → differ o o ≡ true → ⊥
  differ-self o k =
      let values = differ-are o o k in
      false≢true (sym values.apart ∙ eq-eqb values.first values.second (cc (values.first_is, values.second_is)))

  -- no demand on it disagrees with another
  on-first : IsFirstInstance s.trail a.choice.var → (d e : Demand) → disagree after (d, e) ≡ true → d.target ≡ a.choice.var → ⊥
  on-first first d e agreed on =
      let of = disagree-are after d e agreed in
      let agree = agree-are (owner_of d.when) d.target (owner_of e.when) e.target of.must in
      let values = differ-are (value_in after d.target) (value_in after e.target) of.values in
      let moved : under agree.second a.choice.var ≡ e.target = ap (under agree.second) (sym on) ∙ agree.alike.moved in
      let other : same_var a.choice.var e.target ≡ false =
      false_from_ne_true (same_var a.choice.var e.target) (λ same.
      let one : d.target ≡ e.target = on ∙ same_var-is a.choice.var e.target same in
      differ-self (value_in after d.target) (ap (λ v. differ (value_in after d.target) (value_in after v)) one ∙ of.values)) in
      let own : is_of_package a.choice.var.«package» (choice_of (under agree.second a.choice.var) values.second) ≡ true =
      and_from (is_whole a.choice.var.part) (nat_eq a.choice.var.«package» a.choice.var.«package») first.0 (eq-eqb a.choice.var.«package» a.choice.var.«package» refl) in
      only-one first (choice_of e.target values.second) (value_in-made after e.target values.second values.second_is)
      (subst (λ (v : Var). is_of_package a.choice.var.«package» (choice_of v values.second) ≡ true) moved own) other

  -- nor does one that it owns
  by-first : IsFirstInstance s.trail a.choice.var → (d e : Demand) → disagree after (d, e) ≡ true → is_owned_by a.choice.var d ≡ true → is_yes (value_in after) e ≡ true → ⊥
  by-first first d e agreed own is =
      let of = disagree-are after d e agreed in
      let agree = agree-are (owner_of d.when) d.target (owner_of e.when) e.target of.must in
      let owner : agree.first.var ≡ a.choice.var = owner-is d.when a.choice.var agree.first own agree.first_is in
      only-one first agree.second (owner-chosen after e agree.second is agree.second_is)
      (subst (λ (v : Var). is_of_package v.«package» agree.second ≡ true) owner (twin-of agree.first agree.second (are-twins agree.first agree.second agree.alike.twins)))
      (ap (λ v. same_var v agree.second.var) (sym owner) ∙ agree.alike.twins.other)
    where
      owner-is : (when : List Choice) (v : Var) (c : Choice) → is_first v when ≡ true → owner_of when ≡ Some c → c.var ≡ v
      owner-is [] v c own is = absurd (false≢true own)
      owner-is (x ∷ others) v c own is = let same : x ≡ c = cc is in ap (λ (y : Choice). y.var) (sym same) ∙ same_var-is x.var v own

  own-at : (i : ℕ) (d : Demand) → slice_get all i ≡ Some d → length s.active + length woken ≤ i → Contains fresh d
  own-at i d at high =
      let k = i - (length s.active + length woken) in
      let split : i ≡ length s.active + (length woken + k) = omega (arith, high) in
      get-contains fresh k d
      (sym (ap (λ (ds : List Demand). slice_get ds i) (pending-active s a woken fresh count h) ∙ ap (slice_get (s.active ++ (woken ++ fresh))) split
      ∙ get-right s.active (woken ++ fresh) (length woken + k) ∙ get-right woken fresh k) ∙ at)

  woken-at : IsFirstInstance s.trail a.choice.var → (i : ℕ) (d e : Demand) → slice_get all i ≡ Some d → Contains all e → disagree after (d, e) ≡ true → Contains suspected i
      → Contains woken-ones i
  woken-at first i d e at in' agreed k =
      elim (contains-append (places_on a.choice.var s.active) (rising_from (length s.active) (count - length s.active)) i k) [
        | inl on ↦
            let place = place-is [] s.active s.active refl a.choice.var i on in
            absurd (on-first first d e agreed (ap (λ (x : Demand). x.target) (sym (get-at s.active i d (old-at i d place.0 at))) ∙ place.1))
        | inr new ↦ elim (cases_lt i (length s.active + length woken)) [
          | inl less ↦ rising-has (length s.active) (length woken) i (rising-from (length s.active) (count - length s.active) i new) less
          | inr high ↦ absurd (by-first first d e agreed (fresh-owned s a woken fresh count h d (own-at i d at high)) (pending-yes e in'))
        ]
      ]

  pub woken-suspected : IsFirstInstance s.trail a.choice.var → first_clash s.trail s.active ≡ None → AreSuspects after all woken-ones
  woken-suspected first none i j d e at-i at-j agreed =
      elim (are-suspected none i j d e at-i at-j agreed) [
        | inl k ↦ inl (woken-at first i d e at-i (get-contains all j e at-j) agreed k)
        | inr k ↦ inr (woken-at first j e d at-j (get-contains all i d at-i) (disagree-back after d e agreed) k)
      ]
