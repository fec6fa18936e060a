-- Shared: relaxed cuts.
use Rattle.std.proofs.Common.{◌≡◌, ◌≢◌, ◌⊎◌, ◌||◌, inl, inr, ℕ, zero, suc, ◌%◌, ◌<◌, Bool, true, false, not, List, [], ◌∷◌, ◌++◌, length, set, get_or, cond, IsTrue, Option, Some, None, refl, sym, ap, ◌∙◌, subst, arith, length-append, ◌↔◌, IsSome}
use Rattle.std.specs.Ordering.{is_lt}
use Rattle.std.proofs.lemmas.Bool.Decides.{nat_tests}
use Rattle.std.proofs.lemmas.Bool.{true≢false, false≢true, and_parts, and_from, not-true}
use Rattle.std.proofs.lemmas.List.{append-nil, nil_from_length}
use Rattle.std.specs.Option.{option_to_list}
use Rattle.plan_types.specs.declared.version.Version.{Version}
use Rattle.plan_types.specs.Members.{order}
use Rattle.version_range.specs.Cuts.{is_below, HasNumbers, inside, all_above, rises, are_ends, no_numbers, SomeAbove, IsNewer, IsOlder, IsRelaxed, Relaxes}
use Rattle.version_range.proofs.RisingEnds.{not_itself, compared, below_through, below_up, below_down, not_below_back, quiet, above_down, above_to, all_above_append, has_numbers}

abbrev IsRelaxedAbove : (Version → Bool) → Version → Type 0
IsRelaxedAbove has v = IsTrue (has v) ⊎ IsNewer has v

abbrev IsRelaxedBelow : (Version → Bool) → Version → Type 0
IsRelaxedBelow has v = IsTrue (has v) ⊎ IsOlder has v

-- the newer versions, or the older ones
abbrev Beyond : Bool → (Version → Bool) → Version → Type 0
Beyond true = IsNewer
Beyond false = IsOlder

one_side : (newer : Bool) (has relaxed : Version → Bool) → ((v : Version) → HasNumbers v → IsTrue (relaxed v) ↔ (IsTrue (has v) ⊎ Beyond newer has v)) → Relaxes newer (not newer) has relaxed
one_side newer has relaxed h v n = (λ t. to newer ((h v n).0 t), λ r. (h v n).1 (from newer r))
  where
    to : (newer : Bool) → (IsTrue (has v) ⊎ Beyond newer has v) → IsRelaxed newer (not newer) has v
    to newer (inl m) = inl m
    to true (inr r) = inr (inl (refl, r))
    to false (inr r) = inr (inr (refl, r))

    from : (newer : Bool) → IsRelaxed newer (not newer) has v → (IsTrue (has v) ⊎ Beyond newer has v)
    from newer (inl m) = inl m
    from true (inr (inl r)) = inr r.1
    from true (inr (inr r)) = absurd (false≢true r.0)
    from false (inr (inl r)) = absurd (false≢true r.0)
    from false (inr (inr r)) = inr r.1

-- ---- below

least_numbers : (ps : List ℕ) → 0 < length ps → is_lt (order ps (0 ∷ [])) ≡ false
least_numbers [] n = absurd (omega arith)
least_numbers (zero ∷ []) n = refl
least_numbers (zero ∷ q ∷ ps) n = refl
least_numbers (suc p ∷ ps) n = grind (arith, nat_tests)

-- no version with numbers is below 0
pub least : (z v : Version) → z.parts ≡ 0 ∷ [] → HasNumbers v → is_below v z ≡ false
least z v e n = ap (λ ps. is_lt (order v.parts ps)) e ∙ least_numbers v.parts n

pub least_has : (z : Version) → z.parts ≡ 0 ∷ [] → is_below no_numbers z ≡ true
least_has z e = ap (λ ps. is_lt (order [] ps)) e

module _ (z f : Version) (rest : List Version) (is_least : z.parts ≡ 0 ∷ []) (are : are_ends (f ∷ rest) ≡ true) where
  outer : (is_below no_numbers f ≡ true) × (all_above f rest ≡ true) × (rises rest ≡ true) × (all_above no_numbers rest ≡ true)
  outer =
      let p = and_parts (all_above no_numbers (f ∷ rest)) (rises (f ∷ rest)) are in
      let q = and_parts (is_below no_numbers f) (all_above no_numbers rest) p.0 in
      let r = and_parts (all_above f rest) (rises rest) p.1 in
      (q.0, r.0, r.1, q.1)

  numbers : HasNumbers f
  numbers = has_numbers f outer.0

  pub lowered_are : are_ends (z ∷ rest) ≡ true
  lowered_are =
      let above : all_above z rest ≡ true = above_to z f rest (least z f is_least numbers) outer.1 in
      and_from (all_above no_numbers (z ∷ rest)) (rises (z ∷ rest))
      (and_from (is_below no_numbers z) (all_above no_numbers rest) (least_has z is_least) outer.3)
      (and_from (all_above z rest) (rises rest) above outer.2)

  from_least : (v : Version) → HasNumbers v → inside (z ∷ rest) v ≡ not (inside rest v)
  from_least v n = rw (least z v is_least n)

  from_first : (v : Version) → is_below v f ≡ false → inside (f ∷ rest) v ≡ not (inside rest v)
  from_first v p = rw p

  none_before : (v : Version) → is_below v f ≡ true → (inside (f ∷ rest) v ≡ false) × (inside rest v ≡ false)
  none_before v p =
      let q = quiet v rest (above_down v f rest p outer.1) in
      (rw p q, q)

  first_member : inside (f ∷ rest) f ≡ true
  first_member = from_first f (not_itself f) ∙ ap not (quiet f rest outer.1)

  pub lowered : (v : Version) → HasNumbers v → (IsTrue (inside (z ∷ rest) v) → IsRelaxedBelow (inside (f ∷ rest)) v) × (IsRelaxedBelow (inside (f ∷ rest)) v → IsTrue (inside (z ∷ rest) v))
  lowered v n = (to (is_below v f) refl, from (is_below v f) refl)
    where
      to : (t : Bool) → is_below v f ≡ t → inside (z ∷ rest) v ≡ true → IsRelaxedBelow (inside (f ∷ rest)) v
      to false p h = inl (from_first v p ∙ sym (from_least v n) ∙ h)
      to true p h = inr ((f, numbers, first_member, p), λ s. false≢true (sym (none_before s.0 (below_through s.0 v f s.3 p)).0 ∙ s.2))

      from : (t : Bool) → is_below v f ≡ t → IsRelaxedBelow (inside (f ∷ rest)) v → inside (z ∷ rest) v ≡ true
      from true p r = from_least v n ∙ ap not (none_before v p).1
      from false p (inl h) = from_least v n ∙ sym (from_first v p) ∙ h
      from false p (inr r) = by (is_below f v) refl
        where
          by : (t : Bool) → is_below f v ≡ t → inside (z ∷ rest) v ≡ true
          by true q = absurd (r.1 (f, numbers, first_member, q))
          by false q = from_least v n ∙ ap not (quiet v rest (above_to v f rest q outer.1))

-- ---- above

abbrev pub odd_many : List Version → Bool
odd_many [] = false
odd_many (x ∷ xs) = not (odd_many xs)

odd_push : (xs : List Version) (e : Version) → odd_many (xs ++ e ∷ []) ≡ not (odd_many xs)
odd_push [] e = refl
odd_push (x ∷ xs) e = ap not (odd_push xs e)

parity : (xs : List Version) → (odd_many xs ≡ true → length xs % 2 ≡ 1) × (odd_many xs ≡ false → length xs % 2 ≡ 0)
parity [] = (λ e. absurd (false≢true e), λ e. refl)
parity (x ∷ xs) = by (odd_many xs) refl (parity xs)
  where
    by : (t : Bool) → odd_many xs ≡ t → (odd_many xs ≡ true → length xs % 2 ≡ 1) × (odd_many xs ≡ false → length xs % 2 ≡ 0) → (not (odd_many xs) ≡ true → length (x ∷ xs) % 2 ≡ 1) × (not (odd_many xs) ≡ false → length (x ∷ xs) % 2 ≡ 0)
    by true p h = let q = h.0 p in (λ e. absurd (false≢true (ap not (sym p) ∙ e)), λ e. omega (arith, q))
    by false p h = let q = h.1 p in (λ e. omega (arith, q), λ e. absurd (true≢false (ap not (sym p) ∙ e)))

before_last : (v : Version) (xs : List Version) (e : Version) → is_below v e ≡ true → inside (xs ++ e ∷ []) v ≡ inside xs v
before_last v [] e p = rw p
before_last v (x ∷ xs) e p = ap (λ t. cond (is_below v x) t (not t)) (before_last v xs e p)

past_last : (v : Version) (xs : List Version) (e : Version) → rises (xs ++ e ∷ []) ≡ true → is_below v e ≡ false → (inside (xs ++ e ∷ []) v ≡ not (odd_many xs)) × (inside xs v ≡ odd_many xs)
past_last v [] e h p = (rw p, refl)
past_last v (x ∷ xs) e h p =
    let q = and_parts (all_above x (xs ++ e ∷ [])) (rises (xs ++ e ∷ [])) h in
    let a = (and_parts (is_below x e) true (all_above_append x xs (e ∷ []) q.0).1).0 in
    let b : is_below v x ≡ false = not_below_back x v (below_up x e v a p) in
    let r = past_last v xs e q.1 p in
    (rw b (ap not r.0), rw b (ap not r.1))

-- a list with items has a last one
last_of : (x : Version) (xs : List Version) → (ys : List Version) × (p : Version) × (x ∷ xs ≡ ys ++ p ∷ [])
last_of x [] = ([], x, refl)
last_of x (y ∷ xs) = let r = last_of y xs in (x ∷ r.0, r.1, ap (λ l. x ∷ l) r.2)

module _ (xs : List Version) (e : Version) (are : are_ends (xs ++ e ∷ []) ≡ true) where
  above : (all_above no_numbers (xs ++ e ∷ []) ≡ true) × (rises (xs ++ e ∷ []) ≡ true)
  above = and_parts (all_above no_numbers (xs ++ e ∷ [])) (rises (xs ++ e ∷ [])) are

  last_numbers : HasNumbers e
  last_numbers = has_numbers e (and_parts (is_below no_numbers e) true (all_above_append no_numbers xs (e ∷ []) above.0).1).0

  -- the last interval has no end: no version is newer
  pub kept : odd_many xs ≡ false → (v : Version) → (IsTrue (inside (xs ++ e ∷ []) v) → IsRelaxedAbove (inside (xs ++ e ∷ [])) v) × (IsRelaxedAbove (inside (xs ++ e ∷ [])) v → IsTrue (inside (xs ++ e ∷ []) v))
  kept even v = (λ h. inl h, from)
    where
      last_member : inside (xs ++ e ∷ []) e ≡ true
      last_member = (past_last e xs e above.1 (not_itself e)).0 ∙ ap not even

      by : (t : Bool) → is_below v e ≡ t → (SomeAbove (inside (xs ++ e ∷ [])) v → ⊥) → inside (xs ++ e ∷ []) v ≡ true
      by true p none = absurd (none (e, last_numbers, last_member, p))
      by false p none = (past_last v xs e above.1 p).0 ∙ ap not even

      from : IsRelaxedAbove (inside (xs ++ e ∷ [])) v → inside (xs ++ e ∷ []) v ≡ true
      from (inl h) = h
      from (inr r) = by (is_below v e) refl r.1

  rises_front : (ys zs : List Version) → rises (ys ++ zs) ≡ true → rises ys ≡ true
  rises_front [] zs h = refl
  rises_front (y ∷ ys) zs h =
      let p = and_parts (all_above y (ys ++ zs)) (rises (ys ++ zs)) h in
      and_from (all_above y ys) (rises ys) (all_above_append y ys zs p.0).0 (rises_front ys zs p.1)

  pub lifted_are : are_ends xs ≡ true
  lifted_are = rises_front (no_numbers ∷ xs) (e ∷ []) are

  -- the last interval loses its end
  pub lifted : odd_many xs ≡ true → (v : Version) → (IsTrue (inside xs v) → IsRelaxedAbove (inside (xs ++ e ∷ [])) v) × (IsRelaxedAbove (inside (xs ++ e ∷ [])) v → IsTrue (inside xs v))
  lifted odd v = at xs refl
    where
      at : (l : List Version) → xs ≡ l → (IsTrue (inside xs v) → IsRelaxedAbove (inside (xs ++ e ∷ [])) v) × (IsRelaxedAbove (inside (xs ++ e ∷ [])) v → IsTrue (inside xs v))
      at [] q = absurd (false≢true (sym (ap odd_many q) ∙ odd))
      at (x ∷ l) q = (to (is_below v e) refl, from (is_below v e) refl)
        where
          s : (ys : List Version) × (p : Version) × (x ∷ l ≡ ys ++ p ∷ [])
          s = last_of x l

          ys : List Version
          ys = s.0

          p : Version
          p = s.1

          whole : xs ≡ ys ++ p ∷ []
          whole = q ∙ s.2

          front_even : odd_many ys ≡ false
          front_even = not-true (odd_many ys) (sym (odd_push ys p) ∙ ap odd_many (sym whole) ∙ odd)

          front_rises : rises (ys ++ p ∷ []) ≡ true
          front_rises = ap rises (sym whole) ∙ rises_front xs (e ∷ []) above.1

          all : rises ((ys ++ p ∷ []) ++ e ∷ []) ≡ true
          all = ap (λ l. rises (l ++ e ∷ [])) (sym whole) ∙ above.1

          below_end : (ys : List Version) → rises ((ys ++ p ∷ []) ++ e ∷ []) ≡ true → is_below p e ≡ true
          below_end [] h = (and_parts (is_below p e) true (and_parts (all_above p (e ∷ [])) (rises (e ∷ [])) h).0).0
          below_end (y ∷ ys) h = below_end ys (and_parts (all_above y ((ys ++ p ∷ []) ++ e ∷ [])) (rises ((ys ++ p ∷ []) ++ e ∷ [])) h).1

          under : is_below p e ≡ true
          under = below_end ys all

          from_p : (v : Version) → is_below v p ≡ false → inside xs v ≡ true
          from_p v h = ap (λ l. inside l v) whole ∙ (past_last v ys p front_rises h).0 ∙ ap not front_even

          p_member : inside (xs ++ e ∷ []) p ≡ true
          p_member = before_last p xs e under ∙ from_p p (not_itself p)

          p_numbers : HasNumbers p
          p_numbers =
              has_numbers p (and_parts (is_below no_numbers p) true (all_above_append no_numbers ys (p ∷ []) (ap (all_above no_numbers) (sym whole) ∙ (all_above_append no_numbers xs (e ∷ []) above.0).0)).1).0

          to : (t : Bool) → is_below v e ≡ t → inside xs v ≡ true → IsRelaxedAbove (inside (xs ++ e ∷ [])) v
          to true h k = inl (before_last v xs e h ∙ k)
          to false h k =
              inr (
                (p, p_numbers, p_member, below_up p e v under h),
                λ w. false≢true (sym ((past_last w.0 xs e above.1 (not_below_back e w.0 (below_down e v w.0 h w.3))).0 ∙ ap not odd) ∙ w.2),
              )

          from : (t : Bool) → is_below v e ≡ t → IsRelaxedAbove (inside (xs ++ e ∷ [])) v → inside xs v ≡ true
          from false h r = (past_last v xs e above.1 h).1 ∙ odd
          from true h (inl k) = sym (before_last v xs e h) ∙ k
          from true h (inr r) = by (is_below v p) refl
            where
              by : (t : Bool) → is_below v p ≡ t → inside xs v ≡ true
              by false k = from_p v k
              by true k = absurd (r.1 (p, p_numbers, p_member, k))

pub lifted_none : (v : Version) → (IsTrue (inside [] v) → IsRelaxedAbove (inside []) v) × (IsRelaxedAbove (inside []) v → IsTrue (inside [] v))
lifted_none v = (λ h. inl h, by)
  where
    by : IsRelaxedAbove (inside []) v → false ≡ true
    by (inl h) = h
    by (inr r) = r.0.2

-- ---- the steps of the code

-- an even number of ends, whose last is removed
pub lifted_by : (ends new : List Version) (o : Option Version) → are_ends ends ≡ true → length ends % 2 ≡ 0 → ends ≡ new ++ option_to_list o → (IsSome o ↔ (0 < length ends)) → (are_ends new ≡ true) × Relaxes true false (inside ends) (inside new)
lifted_by ends new None are even e s =
    let none : ends ≡ [] = nil_from_length ends (by (length ends) refl) in
    let nothing : new ≡ [] = sym (e ∙ append-nil new) ∙ none in (
      ap are_ends nothing,
      one_side true (inside ends) (inside new) (λ v n. subst (λ n. IsTrue (inside n v) ↔ IsRelaxedAbove (inside ends) v) (sym nothing) (subst (λ n. IsTrue (inside [] v) ↔ IsRelaxedAbove (inside n) v) (sym none) (lifted_none v))),
    )
  where
    by : (n : ℕ) → length ends ≡ n → n ≡ 0
    by zero q = refl
    by (suc n) q = absurd (false≢true (s.1 (omega arith)))
lifted_by ends new (Some last) are even e s =
    let ok : are_ends (new ++ last ∷ []) ≡ true = ap are_ends (sym e) ∙ are in
    let odd : odd_many new ≡ true = by (odd_many new) refl in
    (lifted_are new last ok, one_side true (inside ends) (inside new) (λ v n. subst (λ n. IsTrue (inside new v) ↔ IsRelaxedAbove (inside n) v) (sym e) (lifted new last ok odd v)))
  where
    by : (t : Bool) → odd_many new ≡ t → t ≡ true
    by true q = refl
    by false q = absurd (omega (arith, (parity new).1 q, ap length e, length-append new (last ∷ [])))

-- an odd number of ends
pub kept_by : (ends : List Version) → are_ends ends ≡ true → length ends % 2 ≢ 0 → Relaxes true false (inside ends) (inside ends)
kept_by [] are odd = absurd (odd refl)
kept_by (x ∷ xs) are odd =
    let s = last_of x xs in
    let e = s.2 in
    let even : odd_many s.0 ≡ false = by s.0 s.1 e (odd_many s.0) refl in
    one_side true (inside (x ∷ xs)) (inside (x ∷ xs)) (λ v n. subst (λ n. IsTrue (inside n v) ↔ IsRelaxedAbove (inside n) v) (sym e) (kept s.0 s.1 (ap are_ends (sym e) ∙ are) even v))
  where
    by : (ys : List Version) (p : Version) → x ∷ xs ≡ ys ++ p ∷ [] → (t : Bool) → odd_many ys ≡ t → t ≡ false
    by ys p e false q = refl
    by ys p e true q = absurd (odd (omega (arith, (parity ys).0 q, ap length e, length-append ys (p ∷ []))))

-- the first end replaced by the least version
pub lowered_by : (ends new : List Version) (z : Version) → are_ends ends ≡ true → ends ≢ [] → new ≡ set ends 0 z → z.parts ≡ 0 ∷ [] → (are_ends new ≡ true) × Relaxes false true (inside ends) (inside new)
lowered_by [] new z are some e l = absurd (some refl)
lowered_by (f ∷ rest) new z are some e l = (
  ap are_ends e ∙ lowered_are z f rest l are,
  one_side false (inside (f ∷ rest)) (inside new) (λ v n. subst (λ m. IsTrue (inside m v) ↔ IsRelaxedBelow (inside (f ∷ rest)) v) (sym e) (lowered z f rest l are v n)),
)

pub first_numbers : (ends : List Version) (f : Version) → are_ends ends ≡ true → ends ≢ [] → f ≡ get_or ends 0 f → HasNumbers f
first_numbers [] f are some e = absurd (some refl)
first_numbers (x ∷ rest) f are some e = subst HasNumbers (sym e) (has_numbers x (and_parts (is_below no_numbers x) (all_above no_numbers rest) (and_parts (all_above no_numbers (x ∷ rest)) (rises (x ∷ rest)) are).0).0)

-- ---- relaxed twice

-- Newer and older are dual: one notion, for an order and for its reverse.
abbrev Some_to : (Version → Version → Type 0) → (Version → Bool) → Version → Type 0
Some_to L has v = (w : Version) × HasNumbers w × IsTrue (has w) × L w v

abbrev Past : (Version → Version → Type 0) → (Version → Bool) → Version → Type 0
Past L has v = Some_to L has v × (Some_to (λ a b. L b a) has v → ⊥)

module _ (L : Version → Version → Type 0) (through : (a b c : Version) → L a b → L b c → L a c) (cases : (a b : Version) → L a b ⊎ ((a ≡ b) ⊎ L b a)) (has once : Version → Bool) (p q : Bool) (enters : (v : Version) → HasNumbers v → IsTrue (has v) → IsTrue (once v)) (comes : (v : Version) → HasNumbers v → IsTrue (once v) → IsTrue (has v) ⊎ ((IsTrue p × Past L has v) ⊎ (IsTrue q × Past (λ a b. L b a) has v))) where
  to_once : (v : Version) → Some_to L has v → Some_to L once v
  to_once v s = (s.0, s.1, enters s.0 s.1 s.2, s.3)

  back_to_once : (v : Version) → Some_to (λ a b. L b a) has v → Some_to (λ a b. L b a) once v
  back_to_once v s = (s.0, s.1, enters s.0 s.1 s.2, s.3)

  past_before : (v : Version) → Past L once v → IsTrue (has v) ⊎ Past L has v
  past_before v r = by (comes w r.0.1 r.0.2)
    where
      w : Version
      w = r.0.0

      none : Some_to (λ a b. L b a) has v → ⊥
      none s = r.1 (back_to_once v s)

      at : (u : Version) → HasNumbers u → IsTrue (has u) → L u v ⊎ ((u ≡ v) ⊎ L v u) → IsTrue (has v) ⊎ Past L has v
      at u n m (inl l) = inr ((u, n, m, l), none)
      at u n m (inr (inl e)) = inl (subst (λ z. IsTrue (has z)) e m)
      at u n m (inr (inr g)) = absurd (none (u, n, m, g))

      by : IsTrue (has w) ⊎ ((IsTrue p × Past L has w) ⊎ (IsTrue q × Past (λ a b. L b a) has w)) → IsTrue (has v) ⊎ Past L has v
      by (inl m) = inr ((w, r.0.1, m, r.0.3), none)
      by (inr (inl t)) = let s = t.1.0 in inr ((s.0, s.1, s.2, through s.0 w v s.3 r.0.3), none)
      by (inr (inr t)) = let s = t.1.0 in at s.0 s.1 s.2 (cases s.0 v)

  past_after : p ≡ false → (v : Version) → Past L has v → Past L once v
  past_after e v r = (to_once v r.0, λ s. by s (comes s.0 s.1 s.2))
    where
      by : (s : Some_to (λ a b. L b a) once v) → IsTrue (has s.0) ⊎ ((IsTrue p × Past L has s.0) ⊎ (IsTrue q × Past (λ a b. L b a) has s.0)) → ⊥
      by s (inl m) = r.1 (s.0, s.1, m, s.3)
      by s (inr (inl t)) = false≢true (sym e ∙ t.0)
      by s (inr (inr t)) = let u = t.1.0 in r.1 (u.0, u.1, u.2, through v s.0 u.0 s.3 u.3)

or_left : (a b : Bool) → IsTrue a → IsTrue (a || b)
or_left true b t = refl
or_left false b t = absurd (false≢true t)

or_right : (a b : Bool) → IsTrue b → IsTrue (a || b)
or_right true b t = refl
or_right false b t = t

abbrev Under : Version → Version → Type 0
Under a b = IsTrue (is_below a b)

abbrev Over : Version → Version → Type 0
Over a b = IsTrue (is_below b a)

over_through : (a b c : Version) → Over a b → Over b c → Over a c
over_through a b c p q = below_through c b a q p

compared_back : (a b : Version) → Over a b ⊎ ((a ≡ b) ⊎ Over b a)
compared_back a b = by (compared b a)
  where
    by : Over a b ⊎ ((b ≡ a) ⊎ Over b a) → Over a b ⊎ ((a ≡ b) ⊎ Over b a)
    by (inl t) = inl t
    by (inr (inl e)) = inr (inl (sym e))
    by (inr (inr t)) = inr (inr t)

module _ (n o m k : Bool) (has once twice : Version → Bool) (first : Relaxes n o has once) (second : Relaxes m k once twice) where
  enters : (v : Version) → HasNumbers v → IsTrue (has v) → IsTrue (once v)
  enters v h t = (first v h).1 (inl t)

  comes : (v : Version) → HasNumbers v → IsTrue (once v) → IsRelaxed n o has v
  comes v h t = (first v h).0 t

  comes_back : (v : Version) → HasNumbers v → IsTrue (once v) → IsTrue (has v) ⊎ ((IsTrue o × IsOlder has v) ⊎ (IsTrue n × IsNewer has v))
  comes_back v h t = by ((first v h).0 t)
    where
      by : IsRelaxed n o has v → IsTrue (has v) ⊎ ((IsTrue o × IsOlder has v) ⊎ (IsTrue n × IsNewer has v))
      by (inl t) = inl t
      by (inr (inl r)) = inr (inr r)
      by (inr (inr r)) = inr (inl r)

  newer_before : (v : Version) → IsNewer once v → IsTrue (has v) ⊎ IsNewer has v
  newer_before = past_before Under below_through compared has once n o enters comes

  older_before : (v : Version) → IsOlder once v → IsTrue (has v) ⊎ IsOlder has v
  older_before = past_before Over over_through compared_back has once o n enters comes_back

  newer_after : n ≡ false → (v : Version) → IsNewer has v → IsNewer once v
  newer_after = past_after Under below_through compared has once n o enters comes

  older_after : o ≡ false → (v : Version) → IsOlder has v → IsOlder once v
  older_after = past_after Over over_through compared_back has once o n enters comes_back

  wider : (v : Version) → IsRelaxed n o has v → IsRelaxed (n || m) (o || k) has v
  wider v (inl t) = inl t
  wider v (inr (inl r)) = inr (inl (or_left n m r.0, r.1))
  wider v (inr (inr r)) = inr (inr (or_left o k r.0, r.1))

  after_both : (v : Version) → HasNumbers v → IsRelaxed m k once v → IsRelaxed (n || m) (o || k) has v
  after_both v h (inl t) = wider v (comes v h t)
  after_both v h (inr (inl r)) = by (newer_before v r.1)
    where
      by : IsTrue (has v) ⊎ IsNewer has v → IsRelaxed (n || m) (o || k) has v
      by (inl t) = inl t
      by (inr s) = inr (inl (or_right n m r.0, s))
  after_both v h (inr (inr r)) = by (older_before v r.1)
    where
      by : IsTrue (has v) ⊎ IsOlder has v → IsRelaxed (n || m) (o || k) has v
      by (inl t) = inl t
      by (inr s) = inr (inr (or_right o k r.0, s))

  before_both : (v : Version) → HasNumbers v → IsRelaxed (n || m) (o || k) has v → IsTrue (twice v)
  before_both v h (inl t) = (second v h).1 (inl (enters v h t))
  before_both v h (inr (inl r)) = by n refl
    where
      by : (t : Bool) → n ≡ t → IsTrue (twice v)
      by true e = (second v h).1 (inl ((first v h).1 (inr (inl (e, r.1)))))
      by false e = (second v h).1 (inr (inl (ap (λ t. t || m) (sym e) ∙ r.0, newer_after e v r.1)))
  before_both v h (inr (inr r)) = by o refl
    where
      by : (t : Bool) → o ≡ t → IsTrue (twice v)
      by true e = (second v h).1 (inl ((first v h).1 (inr (inr (e, r.1)))))
      by false e = (second v h).1 (inr (inr (ap (λ t. t || k) (sym e) ∙ r.0, older_after e v r.1)))

  pub relaxed_twice : Relaxes (n || m) (o || k) has twice
  relaxed_twice v h = (λ t. after_both v h ((second v h).0 t), λ r. before_both v h r)
