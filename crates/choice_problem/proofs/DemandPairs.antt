-- Shared: demands that must agree, and the pairs of a list of demands.
use Rattle.std.proofs.Common.{◌≡◌, ℕ, true, false, not, ◌&&◌, List, [], ◌∷◌, ◌++◌, map, Option, Some, None, refl, sym, ap, ◌∙◌, subst, inl, inr, ◌⊎◌}
use Rattle.std.specs.Prelude.{nat_eq}
use Rattle.std.specs.List.{Contains}
use Rattle.std.proofs.lemmas.Bool.{false≢true, not-true, not-false, eqb-true, eq-eqb, and_parts, and_from, false_from_ne_true, not_from_false}
use Rattle.qualified_goals.specs.declared.variable.Var.{Var}
use Rattle.qualified_goals.specs.Variable.{same_var}
use Rattle.qualified_goals.specs.SameVariable.{same_var-is, same_var-refl}
use Rattle.choice_problem.specs.declared.problem.Choice.{Choice}
use Rattle.choice_problem.specs.declared.problem.Demand.{Demand}
use Rattle.choice_problem.specs.General.{owner_of}
use Rattle.choice_problem.specs.Trail.{value_in}
use Rattle.choice_problem.specs.Twins.{is_whole, under, are_twins, ask_alike, must_agree, differ}
use Rattle.choice_problem.specs.Conflict.{disagree, pairs_behind, first_clash}
use Rattle.common_laws.specs.Lists.{contains-head, contains-tail, contains-none, contains-cases, contains-left, contains-right, contains-append, contains-map, map-contains}
use Rattle.choice_problem.proofs.ActiveDemands.{find-is, find-none, find-nothing}

-- twins

pub record AreTwins (c d : Choice) : Type 0 where
  pub whole : is_whole c.var.part ≡ true
  pub moved : under d c.var ≡ d.var
  pub other : same_var c.var d.var ≡ false
  pub value : c.val ≡ d.val

pub twins-are : (c d : Choice) → are_twins c d ≡ true → AreTwins c d
twins-are c d h =
    let first = and_parts (is_whole c.var.part) (same_var (under d c.var) d.var && (not (same_var c.var d.var) && nat_eq c.val d.val)) h in
    let second = and_parts (same_var (under d c.var) d.var) (not (same_var c.var d.var) && nat_eq c.val d.val) first.1 in
    let third = and_parts (not (same_var c.var d.var)) (nat_eq c.val d.val) second.1 in
    record {
      whole = first.0;
      moved = same_var-is (under d c.var) d.var second.0;
      other = not-true (same_var c.var d.var) third.0;
      value = eqb-true c.val d.val third.1;
    }

pub are-twins : (c d : Choice) → AreTwins c d → are_twins c d ≡ true
are-twins c d h =
    and_from (is_whole c.var.part) (same_var (under d c.var) d.var && (not (same_var c.var d.var) && nat_eq c.val d.val)) h.whole
    (and_from (same_var (under d c.var) d.var) (not (same_var c.var d.var) && nat_eq c.val d.val)
    (ap (λ v. same_var v d.var) h.moved ∙ same_var-refl d.var)
    (and_from (not (same_var c.var d.var)) (nat_eq c.val d.val) (not_from_false (same_var c.var d.var) h.other) (eq-eqb c.val d.val h.value)))

other-back : (v w : Var) → same_var v w ≡ false → same_var w v ≡ false
other-back v w h = false_from_ne_true (same_var w v) (λ k. false≢true (sym h ∙ ap (λ x. same_var v x) (same_var-is w v k) ∙ same_var-refl v))

twins-back : (c d : Choice) → AreTwins c d → AreTwins d c
twins-back c d h = record {
  whole = ap (λ (v : Var). is_whole v.part) (sym h.moved) ∙ h.whole;
  moved = ap (under c) (sym h.moved);
  other = other-back c.var d.var h.other;
  value = sym h.value;
}

-- what they ask for

pub record AskAlike (c : Choice) (v : Var) (d : Choice) (w : Var) : Type 0 where
  pub twins : AreTwins c d
  pub own : under c v ≡ v
  pub moved : under d v ≡ w

pub alike-are : (c : Choice) (v : Var) (d : Choice) (w : Var) → ask_alike c v d w ≡ true → AskAlike c v d w
alike-are c v d w h =
    let first = and_parts (are_twins c d) (same_var (under c v) v && same_var (under d v) w) h in
    let second = and_parts (same_var (under c v) v) (same_var (under d v) w) first.1 in
    record { twins = twins-are c d first.0; own = same_var-is (under c v) v second.0; moved = same_var-is (under d v) w second.1 }

are-alike : (c : Choice) (v : Var) (d : Choice) (w : Var) → AskAlike c v d w → ask_alike c v d w ≡ true
are-alike c v d w h =
    and_from (are_twins c d) (same_var (under c v) v && same_var (under d v) w) (are-twins c d h.twins)
    (and_from (same_var (under c v) v) (same_var (under d v) w) (ap (λ x. same_var x v) h.own ∙ same_var-refl v) (ap (λ x. same_var x w) h.moved ∙ same_var-refl w))

alike-back : (c : Choice) (v : Var) (d : Choice) (w : Var) → AskAlike c v d w → AskAlike d w c v
alike-back c v d w h = record {
  twins = twins-back c d h.twins;
  own = ap (under d) (sym h.moved) ∙ h.moved;
  moved = ap (under c) (sym h.moved) ∙ h.own;
}

-- two owners whose demands must agree
pub record MustAgree (o : Option Choice) (v : Var) (other : Option Choice) (w : Var) : Type 0 where
  pub first : Choice
  pub second : Choice
  pub first_is : o ≡ Some first
  pub second_is : other ≡ Some second
  pub alike : AskAlike first v second w

pub agree-are : (o : Option Choice) (v : Var) (other : Option Choice) (w : Var) → must_agree o v other w ≡ true → MustAgree o v other w
agree-are None v other w h = absurd (false≢true h)
agree-are (Some c) v None w h = absurd (false≢true h)
agree-are (Some c) v (Some d) w h = record { first = c; second = d; first_is = refl; second_is = refl; alike = alike-are c v d w h }

agree-back : (o : Option Choice) (v : Var) (other : Option Choice) (w : Var) → must_agree o v other w ≡ true → must_agree other w o v ≡ true
agree-back None v other w h = absurd (false≢true h)
agree-back (Some c) v None w h = absurd (false≢true h)
agree-back (Some c) v (Some d) w h = are-alike d w c v (alike-back c v d w (alike-are c v d w h))

agree-self : (o : Option Choice) (v : Var) → must_agree o v o v ≡ true → ⊥
agree-self None v h = false≢true h
agree-self (Some c) v h = false≢true (sym (alike-are c v c v h).twins.other ∙ same_var-refl c.var)

-- values that differ

pub record AreValues (o other : Option ℕ) : Type 0 where
  pub first : ℕ
  pub second : ℕ
  pub first_is : o ≡ Some first
  pub second_is : other ≡ Some second
  pub apart : nat_eq first second ≡ false

pub differ-are : (o other : Option ℕ) → differ o other ≡ true → AreValues o other
differ-are None other h = absurd (false≢true h)
differ-are (Some m) None h = absurd (false≢true h)
differ-are (Some m) (Some n) h = record { first = m; second = n; first_is = refl; second_is = refl; apart = not-true (nat_eq m n) h }

apart-back : (m n : ℕ) → nat_eq m n ≡ false → nat_eq n m ≡ false
apart-back m n h = false_from_ne_true (nat_eq n m) (λ k. false≢true (sym h ∙ eq-eqb m n (sym (eqb-true n m k))))

differ-back : (o other : Option ℕ) → differ o other ≡ true → differ other o ≡ true
differ-back None other h = absurd (false≢true h)
differ-back (Some m) None h = absurd (false≢true h)
differ-back (Some m) (Some n) h = not_from_false (nat_eq n m) (apart-back m n (not-true (nat_eq m n) h))

-- demands that disagree

pub record Disagree (trail : List Choice) (d e : Demand) : Type 0 where
  pub must : must_agree (owner_of d.when) d.target (owner_of e.when) e.target ≡ true
  pub values : differ (value_in trail d.target) (value_in trail e.target) ≡ true

pub disagree-are : (trail : List Choice) (d e : Demand) → disagree trail (d, e) ≡ true → Disagree trail d e
disagree-are trail d e h =
    let parts = and_parts (must_agree (owner_of d.when) d.target (owner_of e.when) e.target) (differ (value_in trail d.target) (value_in trail e.target)) h in
    record { must = parts.0; values = parts.1 }

pub are-disagreeing : (trail : List Choice) (d e : Demand) → Disagree trail d e → disagree trail (d, e) ≡ true
are-disagreeing trail d e h = and_from (must_agree (owner_of d.when) d.target (owner_of e.when) e.target) (differ (value_in trail d.target) (value_in trail e.target)) h.must h.values

pub disagree-back : (trail : List Choice) (d e : Demand) → disagree trail (d, e) ≡ true → disagree trail (e, d) ≡ true
disagree-back trail d e h =
    let of = disagree-are trail d e h in
    are-disagreeing trail e d (record {
      must = agree-back (owner_of d.when) d.target (owner_of e.when) e.target of.must;
      values = differ-back (value_in trail d.target) (value_in trail e.target) of.values;
    })

pub disagree-self : (trail : List Choice) (d : Demand) → disagree trail (d, d) ≡ false
disagree-self trail d = false_from_ne_true (disagree trail (d, d)) (λ h. agree-self (owner_of d.when) d.target (disagree-are trail d d h).must)

-- demands that disagree still do where their values stay
pub disagree-kept : (front trail : List Choice) (x : Demand × Demand) → ((v : Var) (n : ℕ) → value_in front v ≡ Some n → value_in trail v ≡ Some n)
    → disagree front x ≡ true → disagree trail x ≡ true
disagree-kept front trail (d, e) kept h =
    let of = disagree-are front d e h in
    let values = differ-are (value_in front d.target) (value_in front e.target) of.values in
    are-disagreeing trail d e (record {
      must = of.must;
      values =
          ap (λ o. differ o (value_in trail e.target)) (kept d.target values.first values.first_is)
          ∙ ap (differ (Some values.first)) (kept e.target values.second values.second_is)
          ∙ not_from_false (nat_eq values.first values.second) values.apart;
    })

-- pairs

pub pair-first : (before ds : List Demand) (x : Demand × Demand) → Contains (pairs_behind before ds) x → Contains before x.0 ⊎ Contains ds x.0
pair-first before [] x h = absurd (contains-none x h)
pair-first before (d ∷ rest) x h =
    elim (contains-append (map (λ e. (e, d)) before) (pairs_behind (before ++ d ∷ []) rest) x h) [
      | inl l ↦ let found = contains-map (λ e. (e, d)) before x l in inl (subst (λ (y : Demand × Demand). Contains before y.0) found.2 found.1)
      | inr r ↦ elim (pair-first (before ++ d ∷ []) rest x r) [
        | inl k ↦ elim (contains-append before (d ∷ []) x.0 k) [
          | inl a ↦ inl a
          | inr b ↦ elim (contains-cases d [] x.0 b) [ inl e ↦ inr (subst (Contains (d ∷ rest)) e (contains-head d rest)) | inr none ↦ absurd (contains-none x.0 none) ]
        ]
        | inr k ↦ inr (contains-tail d rest x.0 k)
      ]
    ]

pub pair-second : (before ds : List Demand) (x : Demand × Demand) → Contains (pairs_behind before ds) x → Contains ds x.1
pair-second before [] x h = absurd (contains-none x h)
pair-second before (d ∷ rest) x h =
    elim (contains-append (map (λ e. (e, d)) before) (pairs_behind (before ++ d ∷ []) rest) x h) [
      | inl l ↦ let found = contains-map (λ e. (e, d)) before x l in subst (λ (y : Demand × Demand). Contains (d ∷ rest) y.1) found.2 (contains-head d rest)
      | inr r ↦ contains-tail d rest x.1 (pair-second (before ++ d ∷ []) rest x r)
    ]

pub pair-of : (before ds : List Demand) (d e : Demand) → Contains before d → Contains ds e → Contains (pairs_behind before ds) (d, e)
pair-of before [] d e h k = absurd (contains-none e k)
pair-of before (x ∷ rest) d e h k =
    elim (contains-cases x rest e k) [
      | inl same ↦ contains-left (map (λ y. (y, x)) before) (pairs_behind (before ++ x ∷ []) rest) (d, e)
          (subst (λ y. Contains {X = Demand × Demand} (map (λ z. (z, x)) before) (d, y)) same (map-contains (λ y. (y, x)) before d h))
      | inr later ↦ contains-right (map (λ y. (y, x)) before) (pairs_behind (before ++ x ∷ []) rest) (d, e)
          (pair-of (before ++ x ∷ []) rest d e (contains-left before (x ∷ []) d h) later)
    ]

-- two demands of a list are one, or a pair in some order
either-pair : (before ds : List Demand) (d e : Demand) → Contains ds d → Contains ds e
    → (d ≡ e) ⊎ (Contains (pairs_behind before ds) (d, e) ⊎ Contains (pairs_behind before ds) (e, d))
either-pair before [] d e h k = absurd (contains-none d h)
either-pair before (x ∷ rest) d e h k =
    let all = before ++ x ∷ [] in
    let last = λ (y : Demand) (same : x ≡ y). subst (Contains all) same (contains-right before (x ∷ []) x (contains-head x [])) in
    let behind = λ (y : Demand × Demand) (i : Contains (pairs_behind all rest) y). contains-right (map (λ z. (z, x)) before) (pairs_behind all rest) y i in
    elim (contains-cases x rest d h) [
      | inl a ↦ elim (contains-cases x rest e k) [
        | inl b ↦ inl (sym a ∙ b)
        | inr r ↦ inr (inl (behind (d, e) (pair-of all rest d e (last d a) r)))
      ]
      | inr l ↦ elim (contains-cases x rest e k) [
        | inl b ↦ inr (inr (behind (e, d) (pair-of all rest e d (last e b) l)))
        | inr r ↦ elim (either-pair all rest d e l r) [
          | inl same ↦ inl same
          | inr pair ↦ elim pair [ inl i ↦ inr (inl (behind (d, e) i)) | inr i ↦ inr (inr (behind (e, d) i)) ]
        ]
      ]
    ]

-- the first pair that disagrees

pub record IsClash (trail : List Choice) (ds : List Demand) (d e : Demand) : Type 0 where
  pub earlier : Contains ds d
  pub later : Contains ds e
  pub apart : Disagree trail d e

pub clash-is : (trail : List Choice) (ds : List Demand) (d e : Demand) → first_clash trail ds ≡ Some (d, e) → IsClash trail ds d e
unfolding first_clash
clash-is trail ds d e h =
    let found = find-is (disagree trail) (pairs_behind [] ds) (d, e) h in
    record {
      earlier = elim (pair-first [] ds (d, e) found.0) [ inl none ↦ absurd (contains-none d none) | inr k ↦ k ];
      later = pair-second [] ds (d, e) found.0;
      apart = disagree-are trail d e found.1;
    }

-- where there is none, those that must agree have one value
pub none-apart : (trail : List Choice) (ds : List Demand) (d e : Demand) → first_clash trail ds ≡ None → Contains ds d → Contains ds e → disagree trail (d, e) ≡ false
unfolding first_clash
none-apart trail ds d e h i k =
    elim (either-pair [] ds d e i k) [
      | inl same ↦ ap (λ x. disagree trail (d, x)) (sym same) ∙ disagree-self trail d
      | inr pair ↦ elim pair [
        | inl is ↦ find-none (disagree trail) (pairs_behind [] ds) (d, e) h is
        | inr is ↦ false_from_ne_true (disagree trail (d, e))
            (λ yes. false≢true (sym (find-none (disagree trail) (pairs_behind [] ds) (e, d) h is) ∙ disagree-back trail d e yes))
      ]
    ]

pub one-value : (trail : List Choice) (ds : List Demand) (d e : Demand) (m n : ℕ) → first_clash trail ds ≡ None → Contains ds d → Contains ds e
    → must_agree (owner_of d.when) d.target (owner_of e.when) e.target ≡ true → value_in trail d.target ≡ Some m → value_in trail e.target ≡ Some n → m ≡ n
one-value trail ds d e m n h i k must first second =
    let apart : differ (value_in trail d.target) (value_in trail e.target) ≡ false =
    ap (λ b. b && differ (value_in trail d.target) (value_in trail e.target)) (sym must) ∙ none-apart trail ds d e h i k in
    eqb-true m n (not-false (nat_eq m n) (ap (λ o. differ o (Some n)) (sym first) ∙ ap (differ (value_in trail d.target)) (sym second) ∙ apart))

-- where no two disagree there is none
pub no-clash : (trail : List Choice) (ds : List Demand) → ((d e : Demand) → Contains ds d → Contains ds e → disagree trail (d, e) ≡ false) → first_clash trail ds ≡ None
unfolding first_clash
no-clash trail ds h =
    find-nothing (disagree trail) (pairs_behind [] ds)
    (λ x i. h x.0 x.1 (elim (pair-first [] ds x i) [ inl none ↦ absurd (contains-none x.0 none) | inr k ↦ k ]) (pair-second [] ds x i))

-- fewer demands under fewer choices have none either
pub clash-front : (front trail : List Choice) (xs ys : List Demand) → ((v : Var) (n : ℕ) → value_in front v ≡ Some n → value_in trail v ≡ Some n)
    → first_clash trail (xs ++ ys) ≡ None → first_clash front xs ≡ None
clash-front front trail xs ys kept h =
    no-clash front xs (λ d e i k. false_from_ne_true (disagree front (d, e))
    (λ yes. false≢true (sym (none-apart trail (xs ++ ys) d e h (contains-left xs ys d i) (contains-left xs ys e k)) ∙ disagree-kept front trail (d, e) kept yes)))
