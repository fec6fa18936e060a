-- Shared: the demands found are those that disagree with one.
use Rattle.std.proofs.Common.{◌≡◌, ℕ, zero, suc, ◌+◌, ◌<◌, arith, length, Bool, true, false, cond, ◌&&◌, List, [], ◌∷◌, ◌++◌, Option, Some, None, refl, sym, ap, ◌∙◌, subst, inl, inr, append_assoc, length-append}
use Rattle.std.specs.Prelude.{nat_eq, option_to_list}
use Rattle.std.specs.List.{Contains, filter, flat_map, slice_get}
use Rattle.std.proofs.Math.Seq.{get_or-append_seam}
use Rattle.std.proofs.lemmas.Bool.{false≢true, eqb-true, eq-eqb, and_parts, and_from, false_from_ne_true}
use Rattle.std.proofs.lemmas.List.Elements.{filter-append}
use Rattle.std.proofs.lemmas.Option.{slice_get-get_or, get_or_from_slice_get}
use Rattle.qualified_goals.specs.declared.variable.Var.{Var}
use Rattle.qualified_goals.specs.Variable.{same_var}
use Rattle.qualified_goals.specs.SameVariable.{same_var-is, same_var-refl}
use Rattle.choice_problem.specs.declared.problem.Choice.{Choice}
use Rattle.choice_problem.specs.declared.problem.Demand.{Demand}
use Rattle.choice_problem.specs.Active.{asks_for}
use Rattle.choice_problem.specs.Assignment.{is_made, is_yes}
use Rattle.choice_problem.specs.General.{owner_of}
use Rattle.choice_problem.specs.Trail.{value_in}
use Rattle.choice_problem.specs.Twins.{is_whole, is_of_package, under, are_twins, must_agree, differ}
use Rattle.common_laws.specs.Lists.{contains-head, contains-tail, contains-none, contains-cases, contains-flat_map, flat_map-contains, contains-filter, filter-contains, all-at}
use Rattle.choice_problem.proofs.DemandPairs.{twins-are, are-twins, agree-are}
use Rattle.choice_problem.proofs.TrailLemmas.{value_in-made, is_made-is}
use Rattle.demand_agreement.specs.Places.{no_demand, demand_at, places_from, places_on}
use Rattle.demand_agreement.specs.Clashes.{is_first, apart_by, clashing}

pub at-get : (ds : List Demand) (k : ℕ) → k < length ds → slice_get ds k ≡ Some (demand_at ds k)
at-get ds k h = slice_get-get_or ds k no_demand h

pub get-at : (ds : List Demand) (k : ℕ) (d : Demand) → slice_get ds k ≡ Some d → demand_at ds k ≡ d
get-at ds k d h = get_or_from_slice_get ds k d no_demand h

pub get-front : {X : Type 0} (xs ys : List X) (n : ℕ) (x : X) → slice_get xs n ≡ Some x → slice_get (xs ++ ys) n ≡ Some x
get-front [] ys n x h = absurd (cc h)
get-front (y ∷ xs) ys zero x h = h
get-front (y ∷ xs) ys (suc n) x h = get-front xs ys n x h

pub none-from : {X : Type 0} (o : Option X) → ((x : X) → o ≡ Some x → ⊥) → o ≡ None
none-from None h = refl
none-from (Some x) h = absurd (h x refl)

-- places

pub place-is : (front ds all : List Demand) → all ≡ front ++ ds → (v : Var) (k : ℕ) → Contains (places_from (length front) v ds) k → (k < length all) × ((demand_at all k).target ≡ v)
place-is front [] all e v k h = absurd (contains-none k h)
place-is front (d ∷ ds) all e v k h =
    let rest = places_from (suc (length front)) v ds in
    let here : demand_at all (length front) ≡ d = ap (λ l. demand_at l (length front)) e ∙ get_or-append_seam front d ds no_demand in
    let next : all ≡ (front ++ d ∷ []) ++ ds = e ∙ sym (append_assoc front (d ∷ []) ds) in
    let count : suc (length front) ≡ length (front ++ d ∷ []) = omega (arith, length-append front (d ∷ [])) in
    let later = λ (i : Contains rest k). place-is (front ++ d ∷ []) ds all next v k (subst (λ n. Contains (places_from n v ds) k) count i) in
    elim (asks_for v d) as (λ b. asks_for v d ≡ b → Contains (cond b (length front ∷ rest) rest) k → (k < length all) × ((demand_at all k).target ≡ v)) [
      | true ↦ λ asks i. elim (contains-cases (length front) rest k i) [
        | inl same ↦ (
          omega (arith, same, ap length e, length-append front (d ∷ ds)),
          ap (λ n. (demand_at all n).target) (sym same) ∙ ap (λ (x : Demand). x.target) here ∙ same_var-is d.target v asks,
        )
        | inr r ↦ later r
      ]
      | false ↦ λ asks i. later i
    ] refl h

pub place-there : (n : ℕ) (v : Var) (ds : List Demand) (k : ℕ) (d : Demand) → slice_get ds k ≡ Some d → d.target ≡ v → Contains (places_from n v ds) (n + k)
place-there n v [] k d h same = absurd (cc h)
place-there n v (x ∷ ds) zero d h same =
    let e : x ≡ d = cc in
    let rest = places_from (suc n) v ds in
    let asks : asks_for v x ≡ true = ap (λ (y : Demand). same_var y.target v) e ∙ ap (λ w. same_var w v) same ∙ same_var-refl v in
    subst (λ b. Contains (cond b (n ∷ rest) rest) (n + 0)) (sym asks) (subst (λ m. Contains (n ∷ rest) m) (omega arith) (contains-head n rest))
place-there n v (x ∷ ds) (suc k) d h same =
    let rest = places_from (suc n) v ds in
    let later : Contains rest (n + suc k) = subst (λ m. Contains rest m) (omega arith) (place-there (suc n) v ds k d h same) in
    elim (asks_for v x) as (λ b. Contains (cond b (n ∷ rest) rest) (n + suc k)) [ true ↦ contains-tail n rest (n + suc k) later | false ↦ later ]

-- the first choice of a condition

pub first-is : (c : Choice) (when : List Choice) → is_first c when ≡ true → owner_of when ≡ Some c
first-is c [] h = absurd (false≢true h)
first-is c (owner ∷ others) h =
    let parts = and_parts (same_var owner.var c.var) (nat_eq owner.val c.val) h in
    ap (λ v. Some (record { var = v; val = owner.val })) (same_var-is owner.var c.var parts.0) ∙ ap (λ n. Some (record { var = c.var; val = n })) (eqb-true owner.val c.val parts.1)

pub first-from : (c : Choice) (when : List Choice) → owner_of when ≡ Some c → is_first c when ≡ true
first-from c [] h = absurd (cc h)
first-from c (owner ∷ others) h =
    let same : owner ≡ c = cc in
    subst (λ (x : Choice). same_var x.var c.var && nat_eq x.val c.val ≡ true) (sym same) (and_from (same_var c.var c.var) (nat_eq c.val c.val) (same_var-refl c.var) (eq-eqb c.val c.val refl))

-- the owner of a demand that is Yes was chosen
pub owner-chosen : (trail : List Choice) (d : Demand) (c : Choice) → is_yes (value_in trail) d ≡ true → owner_of d.when ≡ Some c → Contains trail c
owner-chosen trail d c is owner = value_in-made trail c.var c.val (is_made-is (value_in trail) c (all-at (is_made (value_in trail)) d.when c is (owner-in d.when owner)))
  where
    owner-in : (when : List Choice) → owner_of when ≡ Some c → Contains when c
    owner-in [] h = absurd (cc h)
    owner-in (owner ∷ others) h = let same : owner ≡ c = cc in subst (λ x. Contains (owner ∷ others) x) same (contains-head owner others)

-- twins are choices of one package

filter-within : (test wider : Choice → Bool) → ((c : Choice) → test c ≡ true → wider c ≡ true) → (cs : List Choice) → filter test (filter wider cs) ≡ filter test cs
filter-within test wider h [] = refl
filter-within test wider h (c ∷ cs) =
    elim (wider c) as (λ b. wider c ≡ b → filter test (cond b (c ∷ filter wider cs) (filter wider cs)) ≡ cond (test c) (c ∷ filter test cs) (filter test cs)) [
      | true ↦ λ e. ap (λ l. cond (test c) (c ∷ l) l) (filter-within test wider h cs)
      | false ↦ λ e.
          let out : test c ≡ false = false_from_ne_true (test c) (λ k. false≢true (sym e ∙ h c k)) in
          filter-within test wider h cs ∙ ap (λ b. cond b (c ∷ filter test cs) (filter test cs)) (sym out)
    ] refl

pub twin-of : (owner c : Choice) → are_twins owner c ≡ true → is_of_package owner.var.«package» c ≡ true
twin-of owner c h =
    let twins = twins-are owner c h in
    and_from (is_whole c.var.part) (nat_eq c.var.«package» owner.var.«package») (ap (λ (v : Var). is_whole v.part) (sym twins.moved) ∙ twins.whole)
    (eq-eqb c.var.«package» owner.var.«package» (ap (λ (v : Var). v.«package») (sym twins.moved)))

pub twins-split : (owner : Choice) (trail kept : List Choice) (last : Option Choice)
    → filter (is_of_package owner.var.«package») trail ≡ kept ++ filter (is_of_package owner.var.«package») (option_to_list last)
    → filter (are_twins owner) trail ≡ filter (are_twins owner) kept ++ filter (are_twins owner) (option_to_list last)
twins-split owner trail kept last h =
    let test = are_twins owner in
    let wider = is_of_package owner.var.«package» in
    sym (filter-within test wider (twin-of owner) trail) ∙ ap (filter test) h ∙ filter-append test kept (filter wider (option_to_list last))
    ∙ ap (λ l. filter test kept ++ l) (filter-within test wider (twin-of owner) (option_to_list last))

module _ (trail : List Choice) (ds : List Demand) where
  -- the demand at a place disagrees with one with this owner and target
  pub record IsApart (owner : Option Choice) (target : Var) (k : ℕ) : Type 0 where
    pub within : k < length ds
    pub must : must_agree owner target (owner_of (demand_at ds k).when) (demand_at ds k).target ≡ true
    pub values : differ (value_in trail target) (value_in trail (demand_at ds k).target) ≡ true

  -- each demand found disagrees

  by-twin : (owner : Choice) (target : Var) (twin : Choice) (k : ℕ) → same_var (under owner target) target ≡ true → are_twins owner twin ≡ true
      → Contains (apart_by trail ds target twin) k → IsApart (Some owner) target k
  by-twin owner target twin k own twins h =
      let moved = under twin target in
      let found = filter (λ n. is_first twin (demand_at ds n).when) (places_on moved ds) in
      elim (differ (value_in trail target) (value_in trail moved)) as (λ b. differ (value_in trail target) (value_in trail moved) ≡ b → Contains (cond b found []) k → IsApart (Some owner) target k) [
        | true ↦ λ values i.
            let kept = contains-filter (λ n. is_first twin (demand_at ds n).when) (places_on moved ds) k i in
            let place = place-is [] ds ds refl moved k kept.0 in
            let d = demand_at ds k in
            record {
              within = place.0;
              must =
                  ap (λ o. must_agree (Some owner) target o d.target) (first-is twin d.when kept.1) ∙ ap (must_agree (Some owner) target (Some twin)) place.1
                  ∙ and_from (are_twins owner twin) (same_var (under owner target) target && same_var moved moved) twins
                  (and_from (same_var (under owner target) target) (same_var moved moved) own (same_var-refl moved));
              values = ap (λ v. differ (value_in trail target) (value_in trail v)) place.1 ∙ values;
            }
        | false ↦ λ values i. absurd (contains-none k i)
      ] refl h

  pub clashing-is : (owner : Option Choice) (target : Var) (k : ℕ) → Contains (clashing trail ds owner target) k → IsApart owner target k
  clashing-is None target k h = absurd (contains-none k h)
  clashing-is (Some owner) target k h =
      let all = flat_map (apart_by trail ds target) (filter (are_twins owner) trail) in
      elim (same_var (under owner target) target) as (λ b. same_var (under owner target) target ≡ b → Contains (cond b all []) k → IsApart (Some owner) target k) [
        | true ↦ λ own i.
            let (twin, among, by) = contains-flat_map (apart_by trail ds target) (filter (are_twins owner) trail) k i in
            by-twin owner target twin k own (contains-filter (are_twins owner) trail twin among).1 by
        | false ↦ λ own i. absurd (contains-none k i)
      ] refl h

  -- each demand that disagrees is found

  pub clashing-has : (owner : Option Choice) (target : Var) (k : ℕ) → IsApart owner target k → is_yes (value_in trail) (demand_at ds k) ≡ true → Contains (clashing trail ds owner target) k
  clashing-has owner target k apart is =
      let d = demand_at ds k in
      let agree = agree-are owner target (owner_of d.when) d.target apart.must in
      let first = agree.first in
      let twin = agree.second in
      let moved : under twin target ≡ d.target = agree.alike.moved in
      let start : 0 + k ≡ k = omega arith in
      let place : Contains (places_on (under twin target) ds) k =
      subst (λ n. Contains (places_on (under twin target) ds) n) start (place-there 0 (under twin target) ds k d (at-get ds k apart.within) (sym moved)) in
      let kept = filter-contains (λ n. is_first twin (demand_at ds n).when) (places_on (under twin target) ds) k place (first-from twin d.when agree.second_is) in
      let by : Contains (apart_by trail ds target twin) k =
      subst (λ b. Contains (cond b (filter (λ n. is_first twin (demand_at ds n).when) (places_on (under twin target) ds)) []) k)
      (sym (ap (λ v. differ (value_in trail target) (value_in trail v)) moved ∙ apart.values)) kept in
      let among = filter-contains (are_twins first) trail twin (owner-chosen trail d twin is agree.second_is) (are-twins first twin agree.alike.twins) in
      let all = flat_map-contains (apart_by trail ds target) (filter (are_twins first) trail) twin k among by in
      let own : same_var (under first target) target ≡ true = ap (λ v. same_var v target) agree.alike.own ∙ same_var-refl target in
      subst (λ o. Contains (clashing trail ds o target) k) (sym agree.first_is)
      (subst (λ b. Contains (cond b (flat_map (apart_by trail ds target) (filter (are_twins first) trail)) []) k) (sym own) all)
