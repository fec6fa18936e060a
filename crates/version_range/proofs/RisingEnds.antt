-- Shared: the order of versions, and rising lists of ends.
use Rattle.std.proofs.Common.{◌≡◌, ◌≢◌, ◌⊎◌, inl, inr, ℕ, zero, suc, ◌%◌, ◌<◌, ◌≤◌, Bool, true, false, not, ◌||◌, List, [], ◌∷◌, ◌++◌, length, get_or, drop, refl, sym, ap, ◌∙◌, subst, ⊎_elim, arith, append_assoc, nat_eq}
use Rattle.std.specs.declared.cmp.Ordering.{Ordering}
use Rattle.std.specs.declared.cmp.Ordering.TheVariants.{Less, Equal, Greater}
use Rattle.std.specs.Ordering.{is_lt, is_ge, ordering_reverse}
use Rattle.std.specs.List.Sorted.{IsPartitionedBy, IsPartitionPoint}
use Rattle.std.proofs.lemmas.Bool.Decides.{nat_tests}
use Rattle.std.specs.Cmp.{IsTotalOrder}
use Rattle.std.specs.Cmp.Lexicographic.{on_texts}
use Rattle.std.proofs.lemmas.Cmp.{alike_right, tied_itself, tied_back}
use Rattle.std.proofs.lemmas.Bool.{true≢false, false≢true, and_parts, and_from}
use Rattle.std.proofs.lemmas.Map.Lookups.{exact_bytes}
use Rattle.plan_types.specs.declared.version.Version.{Version}
use Rattle.plan_types.specs.Members.{order}
use Rattle.version_range.specs.declared.merge.Connective.{Connective}
use Rattle.version_range.specs.Cuts.{is_below, HasNumbers, inside, all_above, rises, are_ends, no_numbers, join, flip, not_same, pushed, Takes, IsStep}
use Rattle.common_laws.specs.Small.{is-less}

abbrev R : Version → Version → Ordering
R v w = order v.parts w.parts

total : IsTotalOrder R
total = on_texts (λ v. v.parts)

not_less : (o : Ordering) → is_lt o ≡ false → (o ≡ Equal) ⊎ (o ≡ Greater)
not_less Less e = absurd (true≢false e)
not_less Equal e = inl refl
not_less Greater e = inr refl

pub not_itself : (v : Version) → is_below v v ≡ false
not_itself v = ap is_lt (tied_itself total v)

pub below_through : (a b c : Version) → is_below a b ≡ true → is_below b c ≡ true → is_below a c ≡ true
below_through a b c p q = ap is_lt (total.trans a b c (is-less (R a b) p) (is-less (R b c) q))

-- a < b ≤ c
pub below_up : (a b c : Version) → is_below a b ≡ true → is_below c b ≡ false → is_below a c ≡ true
below_up a b c p q =
    ⊎_elim
    (λ e. ap is_lt (alike_right total c b a e ∙ is-less (R a b) p))
    (λ g. below_through a b c p (ap is_lt (total.antisymm b c ∙ ap ordering_reverse g)))
    (not_less (R c b) q)

-- a ≤ b < c
pub below_down : (a b c : Version) → is_below b a ≡ false → is_below b c ≡ true → is_below a c ≡ true
below_down a b c p q =
    ⊎_elim
    (λ e. ap is_lt (sym (total.congr b a c e) ∙ is-less (R b c) q))
    (λ g. below_through a b c (ap is_lt (total.antisymm a b ∙ ap ordering_reverse g)) q)
    (not_less (R b a) p)

-- a ≤ b ≤ c
pub not_below_through : (a b c : Version) → is_below b a ≡ false → is_below c b ≡ false → is_below c a ≡ false
not_below_through a b c p q = by (is_below c a) refl
  where
    by : (t : Bool) → is_below c a ≡ t → t ≡ false
    by false e = refl
    by true e = absurd (false≢true (sym q ∙ below_up c a b e p))

pub not_below_back : (a b : Version) → is_below a b ≡ true → is_below b a ≡ false
not_below_back a b p = by (is_below b a) refl
  where
    by : (t : Bool) → is_below b a ≡ t → t ≡ false
    by false e = refl
    by true e = absurd (false≢true (sym (not_itself a) ∙ below_through a b a p e))

pub compared : (a b : Version) → (is_below a b ≡ true) ⊎ ((a ≡ b) ⊎ (is_below b a ≡ true))
compared a b = by (R a b) refl
  where
    by : (o : Ordering) → R a b ≡ o → (is_below a b ≡ true) ⊎ ((a ≡ b) ⊎ (is_below b a ≡ true))
    by Less e = inl (ap is_lt e)
    by Equal e = inr (inl (λ i. record { parts = exact_bytes a.parts b.parts e i }))
    by Greater e = inr (inr (ap is_lt (total.antisymm b a ∙ ap ordering_reverse e)))

-- if all ends are above v, v isn't inside
pub quiet : (v : Version) (xs : List Version) → all_above v xs ≡ true → inside xs v ≡ false
quiet v [] h = refl
quiet v (x ∷ xs) h =
    let p = and_parts (is_below v x) (all_above v xs) h in
    let q = quiet v xs p.1 in
    rw p.0 q

pub above_down : (v e : Version) (xs : List Version) → is_below v e ≡ true → all_above e xs ≡ true → all_above v xs ≡ true
above_down v e [] p h = refl
above_down v e (x ∷ xs) p h =
    let q = and_parts (is_below e x) (all_above e xs) h in
    and_from (is_below v x) (all_above v xs) (below_through v e x p q.0) (above_down v e xs p q.1)

pub above_to : (v e : Version) (xs : List Version) → is_below e v ≡ false → all_above e xs ≡ true → all_above v xs ≡ true
above_to v e [] p h = refl
above_to v e (x ∷ xs) p h =
    let q = and_parts (is_below e x) (all_above e xs) h in
    and_from (is_below v x) (all_above v xs) (below_down v e x p q.0) (above_to v e xs p q.1)

-- ---- two lists merged

pub flip_not : (a b : Bool) → flip a (not b) ≡ flip (not a) b
flip_not true true = refl
flip_not true false = refl
flip_not false b = refl

pub flip_off : (a : Bool) → flip a false ≡ a
flip_off true = refl
flip_off false = refl

-- v at or above e
past : (t : Bool) (v e : Version) (ends xs : List Version) → Takes t e ends xs → is_below v e ≡ false → inside ends v ≡ flip t (inside xs v)
past true v e ends xs k p = ap (λ l. inside l v) k ∙ rw p refl
past false v e ends xs k p = ap (λ l. inside l v) k

before : (t : Bool) (v e : Version) (ends xs : List Version) → Takes t e ends xs → all_above e xs ≡ true → is_below v e ≡ true → inside ends v ≡ false
before true v e ends xs k h p = ap (λ l. inside l v) k ∙ rw p (quiet v xs (above_down v e xs p h))
before false v e ends xs k h p = ap (λ l. inside l v) k ∙ quiet v xs (above_down v e xs p h)

-- The ends `more` continue the joined set as xs and ys continue the two sets, from the states a and b.
abbrev pub Continues : Connective → Bool → Bool → List Version → List Version → List Version → Type 0
Continues j a b xs ys more = (v : Version) → flip (join j a b) (inside more v) ≡ join j (flip a (inside xs v)) (flip b (inside ys v))

flip_both : (a t x : Bool) → flip a (flip t x) ≡ flip (flip t a) x
flip_both true true true = refl
flip_both true true false = refl
flip_both true false x = refl
flip_both false true x = refl
flip_both false false x = refl

flip_held : (a m : Bool) → flip a m ≡ a → m ≡ false
flip_held true true e = absurd (false≢true e)
flip_held true false e = refl
flip_held false m e = e

flip_turned : (a b m : Bool) → a ≢ b → flip a (not m) ≡ flip b m
flip_turned true true m ne = absurd (ne refl)
flip_turned true false true ne = refl
flip_turned true false false ne = refl
flip_turned false true m ne = refl
flip_turned false false m ne = absurd (ne refl)

module _ (j : Connective) (a b : Bool) (xs ys : List Version) (e : Version) (s t : Bool) (xs' ys' : List Version) (step : IsStep xs ys e s xs' t ys') (more : List Version) (goes_on : Continues j (flip s a) (flip t b) xs' ys' more) where
  abbrev was : Bool
  was = join j a b

  abbrev now : Bool
  now = join j (flip s a) (flip t b)

  reached : (v : Version) → is_below v e ≡ false → flip now (inside more v) ≡ join j (flip a (inside xs v)) (flip b (inside ys v))
  reached v p =
      goes_on v
      ∙ (λ i. join j (sym (flip_both a s (inside xs' v)) i) (sym (flip_both b t (inside ys' v)) i))
      ∙ (λ i. join j (flip a (sym (past s v e xs xs' step.first_takes p) i)) (flip b (sym (past t v e ys ys' step.second_takes p) i)))

  still : (v : Version) → is_below v e ≡ true → inside more v ≡ false
  still v p =
      flip_held now (inside more v)
      (goes_on v
      ∙ (λ i. join j (flip (flip s a) (quiet v xs' (above_down v e xs' p step.first_above) i)) (flip (flip t b) (quiet v ys' (above_down v e ys' p step.second_above) i)))
      ∙ (λ i. join j (flip_off (flip s a) i) (flip_off (flip t b) i)))

  unreached : (v : Version) → is_below v e ≡ true → join j (flip a (inside xs v)) (flip b (inside ys v)) ≡ was
  unreached v p =
      (λ i. join j (flip a (before s v e xs xs' step.first_takes step.first_above p i)) (flip b (before t v e ys ys' step.second_takes step.second_above p i)))
      ∙ (λ i. join j (flip_off a i) (flip_off b i))

  -- if the joined set changes at e, e is one of its ends
  pub turns : now ≢ was → Continues j a b xs ys (e ∷ more)
  turns ne v = by (is_below v e) refl
    where
      by : (r : Bool) → is_below v e ≡ r → flip was (inside (e ∷ more) v) ≡ join j (flip a (inside xs v)) (flip b (inside ys v))
      by false p = rw p (flip_turned was now (inside more v) (λ q. ne (sym q)) ∙ reached v p)
      by true p = rw p (ap (flip was) (still v p) ∙ flip_off was ∙ sym (unreached v p))

  pub holds : now ≡ was → Continues j a b xs ys more
  holds same v = by (is_below v e) refl
    where
      by : (r : Bool) → is_below v e ≡ r → flip was (inside more v) ≡ join j (flip a (inside xs v)) (flip b (inside ys v))
      by false p = ap (λ w. flip w (inside more v)) (sym same) ∙ reached v p
      by true p = ap (flip was) (still v p) ∙ flip_off was ∙ sym (unreached v p)

-- ---- rising lists

pub all_above_append : (v : Version) (xs ys : List Version) → all_above v (xs ++ ys) ≡ true → (all_above v xs ≡ true) × (all_above v ys ≡ true)
all_above_append v [] ys h = (refl, h)
all_above_append v (x ∷ xs) ys h =
    let p = and_parts (is_below v x) (all_above v (xs ++ ys)) h in
    let q = all_above_append v xs ys p.1 in
    (and_from (is_below v x) (all_above v xs) p.0 q.0, q.1)

pub all_above_both : (v : Version) (xs ys : List Version) → all_above v xs ≡ true → all_above v ys ≡ true → all_above v (xs ++ ys) ≡ true
all_above_both v [] ys h k = k
all_above_both v (x ∷ xs) ys h k =
    let p = and_parts (is_below v x) (all_above v xs) h in
    and_from (is_below v x) (all_above v (xs ++ ys)) p.0 (all_above_both v xs ys p.1 k)

rises_drop : (out : List Version) (e : Version) (xs : List Version) → rises (out ++ e ∷ xs) ≡ true → rises (out ++ xs) ≡ true
rises_drop [] e xs h = (and_parts (all_above e xs) (rises xs) h).1
rises_drop (o ∷ out) e xs h =
    let p = and_parts (all_above o (out ++ e ∷ xs)) (rises (out ++ e ∷ xs)) h in
    let q = all_above_append o out (e ∷ xs) p.0 in
    let r = and_parts (is_below o e) (all_above o xs) q.1 in
    and_from (all_above o (out ++ xs)) (rises (out ++ xs)) (all_above_both o out xs q.0 r.1) (rises_drop out e xs p.1)

rises_put : (out : List Version) (e : Version) (xs ys : List Version) → rises (out ++ e ∷ xs) ≡ true → rises (out ++ ys) ≡ true → all_above e ys ≡ true → rises (out ++ e ∷ ys) ≡ true
rises_put [] e xs ys h k a = and_from (all_above e ys) (rises ys) a k
rises_put (o ∷ out) e xs ys h k a =
    let p = and_parts (all_above o (out ++ e ∷ xs)) (rises (out ++ e ∷ xs)) h in
    let q = all_above_append o out (e ∷ xs) p.0 in
    let r = and_parts (is_below o e) (all_above o xs) q.1 in
    let s = and_parts (all_above o (out ++ ys)) (rises (out ++ ys)) k in
    and_from (all_above o (out ++ e ∷ ys)) (rises (out ++ e ∷ ys)) (all_above_both o out (e ∷ ys) q.0 (and_from (is_below o e) (all_above o ys) r.0 (all_above_append o out ys s.0).1)) (rises_put out e xs ys p.1 s.1 a)

-- both lists still rise after e
step_rises : (out xs ys : List Version) (e : Version) (s t : Bool) (xs' ys' : List Version) → Takes s e xs xs' → Takes t e ys ys' → all_above e xs' ≡ true → all_above e ys' ≡ true → (s || t) ≡ true → rises (out ++ xs) ≡ true → rises (out ++ ys) ≡ true → (rises (out ++ e ∷ xs') ≡ true) × (rises (out ++ e ∷ ys') ≡ true)
step_rises out xs ys e true true xs' ys' p q a b one h k = (ap (λ l. rises (out ++ l)) (sym p) ∙ h, ap (λ l. rises (out ++ l)) (sym q) ∙ k)
step_rises out xs ys e true false xs' ys' p q a b one h k =
    let first : rises (out ++ e ∷ xs') ≡ true = ap (λ l. rises (out ++ l)) (sym p) ∙ h in
    (first, rises_put out e xs' ys' first (ap (λ l. rises (out ++ l)) (sym q) ∙ k) b)
step_rises out xs ys e false true xs' ys' p q a b one h k =
    let second : rises (out ++ e ∷ ys') ≡ true = ap (λ l. rises (out ++ l)) (sym q) ∙ k in
    (rises_put out e ys' xs' second (ap (λ l. rises (out ++ l)) (sym p) ∙ h) a, second)
step_rises out xs ys e false false xs' ys' p q a b one h k = absurd (false≢true one)

pub not_same_true : (a b : Bool) → not_same a b ≡ true → a ≢ b
not_same_true true true h e = false≢true h
not_same_true true false h e = true≢false e
not_same_true false true h e = false≢true e
not_same_true false false h e = false≢true h

pub not_same_false : (a b : Bool) → not_same a b ≡ false → a ≡ b
not_same_false true true h = refl
not_same_false true false h = absurd (true≢false h)
not_same_false false true h = absurd (true≢false h)
not_same_false false false h = refl

-- ---- the loop that merges

-- the invariant of the merge
pub record Merges (j : Connective) (xs ys out : List Version) (a b : Bool) (xs' ys' : List Version) : Type 0 where
  pub first_rises : are_ends (out ++ xs') ≡ true
  pub second_rises : are_ends (out ++ ys') ≡ true
  pub follows : (more : List Version) → Continues j a b xs' ys' more → (v : Version) → inside (out ++ more) v ≡ join j (inside xs v) (inside ys v)

pub merges_step : (j : Connective) (xs ys out : List Version) (a b : Bool) (xs' ys' : List Version) (e : Version) (s t : Bool) (xs'' ys'' : List Version) (w : Bool) (out' : List Version) → Merges j xs ys out a b xs' ys' → IsStep xs' ys' e s xs'' t ys'' → w ≡ not_same (join j a b) (join j (flip s a) (flip t b)) → out' ≡ pushed w out e → Merges j xs ys out' (flip s a) (flip t b) xs'' ys''
merges_step j xs ys out a b xs' ys' e s t xs'' ys'' w out' m step wanted pushed_is = by w wanted (out') pushed_is
  where
    r : (rises ((no_numbers ∷ out) ++ e ∷ xs'') ≡ true) × (rises ((no_numbers ∷ out) ++ e ∷ ys'') ≡ true)
    r = step_rises (no_numbers ∷ out) xs' ys' e s t xs'' ys'' step.first_takes step.second_takes step.first_above step.second_above step.one m.first_rises m.second_rises

    by : (w : Bool) → w ≡ not_same (join j a b) (join j (flip s a) (flip t b)) → (out' : List Version) → out' ≡ pushed w out e → Merges j xs ys out' (flip s a) (flip t b) xs'' ys''
    by true u o q = subst (λ o. Merges j xs ys o (flip s a) (flip t b) xs'' ys'') (sym q) (record {
      first_rises = ap are_ends (append_assoc out (e ∷ []) xs'') ∙ r.0;
      second_rises = ap are_ends (append_assoc out (e ∷ []) ys'') ∙ r.1;
      follows = λ more goes_on v. ap (λ l. inside l v) (append_assoc out (e ∷ []) more) ∙ m.follows (e ∷ more) (turns j a b xs' ys' e s t xs'' ys'' step more goes_on (λ z. not_same_true _ _ (sym u) (sym z))) v;
    })
    by false u o q = subst (λ o. Merges j xs ys o (flip s a) (flip t b) xs'' ys'') (sym q) (record {
      first_rises = rises_drop (no_numbers ∷ out) e xs'' r.0;
      second_rises = rises_drop (no_numbers ∷ out) e ys'' r.1;
      follows = λ more goes_on v. m.follows more (holds j a b xs' ys' e s t xs'' ys'' step more goes_on (sym (not_same_false _ _ (sym u)))) v;
    })

rises_tail : (out xs : List Version) → rises (out ++ xs) ≡ true → rises xs ≡ true
rises_tail [] xs h = h
rises_tail (o ∷ out) xs h = rises_tail out xs (and_parts (all_above o (out ++ xs)) (rises (out ++ xs)) h).1

module _ {j : Connective} {xs ys out : List Version} {a b : Bool} {xs' ys' : List Version} (m : Merges j xs ys out a b xs' ys') where
  pub first_left : rises xs' ≡ true
  first_left = rises_tail (no_numbers ∷ out) xs' m.first_rises

  pub second_left : rises ys' ≡ true
  second_left = rises_tail (no_numbers ∷ out) ys' m.second_rises

-- ---- the least of two heads

head_above : (x : Version) (l xs : List Version) → l ≡ x ∷ xs → rises l ≡ true → all_above x xs ≡ true
head_above x l xs e h = (and_parts (all_above x xs) (rises xs) (ap rises (sym e) ∙ h)).0

module _ (first second : List Version) (x : Version) (xs : List Version) (y : Version) (ys : List Version) (p : first ≡ x ∷ xs) (q : second ≡ y ∷ ys) (h : rises first ≡ true) (k : rises second ≡ true) where
  first_least : R x y ≡ Less → IsStep first second x true xs false second
  first_least o =
      let lower : is_below x y ≡ true = ap is_lt o in
      record {
        first_takes = p;
        second_takes = refl;
        first_above = head_above x first xs p h;
        second_above = ap (all_above x) q ∙ and_from (is_below x y) (all_above x ys) lower (above_down x y ys lower (head_above y second ys q k));
        one = refl;
        shorter = omega (arith, ap length p);
      }

  second_least : R x y ≡ Greater → IsStep first second y false first true ys
  second_least o =
      let lower : is_below y x ≡ true = ap is_lt (total.antisymm y x ∙ ap ordering_reverse o) in
      record {
        first_takes = refl;
        second_takes = q;
        first_above = ap (all_above y) p ∙ and_from (is_below y x) (all_above y xs) lower (above_down y x xs lower (head_above x first xs p h));
        second_above = head_above y second ys q k;
        one = refl;
        shorter = omega (arith, ap length q);
      }

  both_least : R x y ≡ Equal → IsStep first second x true xs true ys
  both_least o =
      let same : x.parts ≡ y.parts = exact_bytes x.parts y.parts o in
      record {
        first_takes = p;
        second_takes = q ∙ (λ i. record { parts = sym same i } ∷ ys);
        first_above = head_above x first xs p h;
        second_above = above_to x y ys (ap is_lt (tied_back total x y o)) (head_above y second ys q k);
        one = refl;
        shorter = omega (arith, ap length p, ap length q);
      }

front : (l : List Version) (x : Version) → 0 < length l → x ≡ get_or l 0 x → l ≡ x ∷ drop 1 l
front [] x n e = absurd (omega arith)
front (z ∷ l) x n e = ap (λ w. w ∷ l) (sym e)

-- a front item that is seen, and then removed
module _ (l : List Version) (x e : Version) (xs : List Version) (n : 0 < length l) (seen : x ≡ get_or l 0 x) (taken : e ≡ get_or l 0 e) (rest : xs ≡ drop 1 l) where
  left : l ≡ e ∷ xs
  left = front l e n taken ∙ ap (λ r. e ∷ r) (sym rest)

  same : x ≡ e
  same = seen ∙ ap (λ m. get_or m 0 x) left

module _ (first second : List Version) (x y : Version) (n : 0 < length first) (m : 0 < length second) (p : x ≡ get_or first 0 x) (q : y ≡ get_or second 0 y) (h : rises first ≡ true) (k : rises second ≡ true) (e : Version) (rest : List Version) where
  pub first_taken : R x y ≡ Less → e ≡ get_or first 0 e → rest ≡ drop 1 first → IsStep first second e true rest false second
  first_taken o t r =
      first_least first second e rest y (drop 1 second) (left first x e rest n p t r) (front second y m q) h k (ap (λ z. R z y) (sym (same first x e rest n p t r)) ∙ o)

  pub second_taken : R x y ≡ Greater → e ≡ get_or second 0 e → rest ≡ drop 1 second → IsStep first second e false first true rest
  second_taken o t r =
      second_least first second x (drop 1 first) e rest (front first x n p) (left second y e rest m q t r) h k (ap (R x) (sym (same second y e rest m q t r)) ∙ o)

  pub both_taken : R x y ≡ Equal → e ≡ get_or first 0 e → rest ≡ drop 1 first → (other : List Version) → other ≡ drop 1 second → IsStep first second e true rest true other
  both_taken o t r other u =
      both_least first second e rest y other (left first x e rest n p t r) (front second y m q ∙ ap (λ l. y ∷ l) (sym u)) h k (ap (λ z. R z y) (sym (same first x e rest n p t r)) ∙ o)

-- ---- how many ends a version reaches

abbrev reaches : Version → Version → Bool
reaches v e = is_ge (R v e)

ge_from : (o : Ordering) → is_lt o ≡ false → is_ge o ≡ true
ge_from Less e = absurd (true≢false e)
ge_from Equal e = refl
ge_from Greater e = refl

not_lt_from : (o : Ordering) → is_ge o ≡ true → is_lt o ≡ false
not_lt_from Less e = absurd (false≢true e)
not_lt_from Equal e = refl
not_lt_from Greater e = refl

lt_from : (o : Ordering) → is_ge o ≡ false → is_lt o ≡ true
lt_from Less e = refl
lt_from Equal e = absurd (true≢false e)
lt_from Greater e = absurd (true≢false e)

each_above : (x : Version) (xs : List Version) (k : ℕ) (d : Version) → all_above x xs ≡ true → k < length xs → is_below x (get_or xs k d) ≡ true
each_above x [] k d h l = absurd (omega arith)
each_above x (y ∷ ys) zero d h l = (and_parts (is_below x y) (all_above x ys) h).0
each_above x (y ∷ ys) (suc k) d h l = each_above x ys k d (and_parts (is_below x y) (all_above x ys) h).1 (omega arith)

pub reached_first : (v : Version) (ends : List Version) → rises ends ≡ true → IsPartitionedBy (reaches v) ends
reached_first v [] h i j d le l r = absurd (omega arith)
reached_first v (x ∷ xs) h zero zero d le l r = r
reached_first v (x ∷ xs) h zero (suc j) d le l r =
    let up = each_above x xs j d (and_parts (all_above x xs) (rises xs) h).0 (omega arith) in
    let y = get_or xs j d in
    ge_from (R v x) (not_below_back x v (below_up x y v up (not_lt_from (R v y) r)))
reached_first v (x ∷ xs) h (suc i) zero d le l r = absurd (omega arith)
reached_first v (x ∷ xs) h (suc i) (suc j) d le l r = reached_first v xs (and_parts (all_above x xs) (rises xs) h).1 i j d (omega arith) (omega arith) r

odd_next : (i : ℕ) → nat_eq (suc i % 2) 1 ≡ not (nat_eq (i % 2) 1)
odd_next i = grind (arith, nat_tests)

pub inside_by_count : (v : Version) (ends : List Version) (i : ℕ) → i ≤ length ends → IsPartitionPoint (λ e. reaches v e ≡ true) (λ e. reaches v e ≡ false) ends i → nat_eq (i % 2) 1 ≡ inside ends v
inside_by_count v [] zero l p = refl
inside_by_count v [] (suc i) l p = absurd (omega arith)
inside_by_count v (x ∷ xs) zero l p =
    let under : is_below v x ≡ true = lt_from (R v x) (p.1 0 x (omega arith) (omega arith)) in
    let rest = inside_by_count v xs zero (omega arith) (λ k d a b. absurd (omega arith), λ k d a b. p.1 (suc k) d (omega arith) (omega arith)) in
    rw under rest
inside_by_count v (x ∷ xs) (suc i) l p =
    let over : is_below v x ≡ false = not_lt_from (R v x) (p.0 0 x (omega arith) (omega arith)) in
    let rest = inside_by_count v xs i (omega arith) (λ k d a b. p.0 (suc k) d (omega arith) (omega arith), λ k d a b. p.1 (suc k) d (omega arith) (omega arith)) in
    rw over (odd_next i ∙ ap not rest)

-- ---- emptiness

pub has_numbers : (e : Version) → is_below no_numbers e ≡ true → HasNumbers e
has_numbers e b = by e.parts b
  where
    by : (ps : List ℕ) → is_lt (order [] ps) ≡ true → 0 < length ps
    by [] b = absurd (false≢true b)
    by (p ∷ ps) b = omega arith

pub empty_when : (ends : List Version) → are_ends ends ≡ true → (ends ≡ [] → (v : Version) → HasNumbers v → inside ends v ≡ false) × (((v : Version) → HasNumbers v → inside ends v ≡ false) → ends ≡ [])
empty_when [] h = (λ e v n. refl, λ f. refl)
empty_when (e ∷ es) h =
    let p = and_parts (all_above no_numbers (e ∷ es)) (rises (e ∷ es)) h in
    let q = and_parts (is_below no_numbers e) (all_above no_numbers es) p.0 in
    (λ z. absurd (cc z), λ f. absurd (true≢false (sym (first_inside e es p.1) ∙ f e (has_numbers e q.0))))
  where
    first_inside : (e : Version) (es : List Version) → rises (e ∷ es) ≡ true → inside (e ∷ es) e ≡ true
    first_inside e es r = rw (not_itself e) (ap not (quiet e es (and_parts (all_above e es) (rises es) r).0))

-- the same, for the variables of the code
pub merges_turn : (j : Connective) (xs ys out : List Version) (a b : Bool) (xs' ys' : List Version) (e : Version) (s t : Bool) (xs'' ys'' : List Version) (out' : List Version) (a' b' w w' d : Bool) → Merges j xs ys out a b xs' ys' → IsStep xs' ys' e s xs'' t ys'' → w ≡ join j a b → a' ≡ flip s a → b' ≡ flip t b → w' ≡ join j a' b' → d ≡ flip w w' → out' ≡ pushed d out e → Merges j xs ys out' a' b' xs'' ys''
merges_turn j xs ys out a b xs' ys' e s t xs'' ys'' out' a' b' w w' d m step p q r u v o =
    subst (λ z. Merges j xs ys out' z b' xs'' ys'') (sym q)
    (subst (λ z. Merges j xs ys out' (flip s a) z xs'' ys'') (sym r)
    (merges_step j xs ys out a b xs' ys' e s t xs'' ys'' d out' m step (v ∙ (λ i. flip (p i) ((u ∙ (λ k. join j (q k) (r k))) i)) ∙ refl) o))
