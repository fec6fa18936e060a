-- A stable sort equals insertion sort.
use Rattle.std.proofs.Common.{◌≡◌, ◌<◌, ℕ, suc, ◌≤◌, Bool, true, false, not, ◌&&◌, cond, if◌then◌else◌, List, [], ◌∷◌, length, get_or, refl, sym, ap, ◌∙◌, arith}
use Rattle.std.specs.List.{filter}
use Rattle.std.specs.List.Sorted.{IsSortedBy, IsStableBy, ties}
use Rattle.std.specs.Cmp.{IsStrictWeakOrder}
use Rattle.std.proofs.lemmas.Bool.{false≢true, and_parts, not-true}
use Rattle.std.proofs.lemmas.List.Sorted.{sorted_far}

turn : {A : Type 0} (a b : Bool) (x y : A) (l : List A) → (a ≡ true → b ≡ true → ⊥) → cond a (x ∷ cond b (y ∷ l) l) (cond b (y ∷ l) l) ≡ cond b (y ∷ cond a (x ∷ l) l) (cond a (x ∷ l) l)
turn true true x y l never = absurd (never refl refl)
turn true false x y l never = refl
turn false true x y l never = refl
turn false false x y l never = refl

not-both : (b : Bool) → (b ≡ true → b ≡ false) → b ≡ false
not-both true h = h refl
not-both false h = refl

module _ {X : Type 0} (lt : X → X → Bool) (order : IsStrictWeakOrder lt) where
  -- inserts before the first that isn't less
  abbrev pub put : X → List X → List X
  put x [] = x ∷ []
  put x (y ∷ ys) = if lt y x then y ∷ put x ys else x ∷ y ∷ ys

  abbrev pub put_all : List X → List X
  put_all [] = []
  put_all (x ∷ xs) = put x (put_all xs)

  -- no element of the list is less
  abbrev Above : X → List X → Type 0
  Above x [] = Unit {0}
  Above x (y ∷ ys) = (lt y x ≡ false) × Above x ys

  abbrev Up : List X → Type 0
  Up [] = Unit {0}
  Up (x ∷ xs) = Above x xs × Up xs

  above-of : (x : X) (xs : List X) → ((k : ℕ) → k < length xs → lt (get_or xs k x) x ≡ false) → Above x xs
  above-of x [] h = tt
  above-of x (y ∷ ys) h = (h 0 (omega arith), above-of x ys (λ k p. h (suc k) (omega arith)))

  up-of : (xs : List X) → ((i j : ℕ) (d : X) → i ≤ j → j < length xs → lt (get_or xs j d) (get_or xs i d) ≡ false) → Up xs
  up-of [] h = tt
  up-of (x ∷ xs) h = (above-of x xs (λ k p. h 0 (suc k) x (omega arith) (omega arith)), up-of xs (λ i j d p q. h (suc i) (suc j) d (omega arith) (omega arith)))

  up-from : (xs : List X) → IsSortedBy lt xs → Up xs
  up-from xs sorted = up-of xs (sorted_far lt order xs sorted)

  irreflexive : (x : X) → lt x x ≡ false
  irreflexive x = not-both (lt x x) (order.one_way x x)

  tied : (x y : X) → lt x y ≡ false → lt y x ≡ false → ties lt x y ≡ true
  tied x y h k = (λ i. not (h i) && not (k i))

  tied-left : (x y : X) → ties lt x y ≡ true → lt x y ≡ false
  tied-left x y h = not-true (lt x y) ((and_parts (not (lt x y)) (not (lt y x)) h).0)

  tied-right : (x y : X) → ties lt x y ≡ true → lt y x ≡ false
  tied-right x y h = not-true (lt y x) ((and_parts (not (lt x y)) (not (lt y x)) h).1)

  -- no element ties with both a lesser and a greater one
  no-ties : (t x y : X) → lt x y ≡ true → ties lt t x ≡ true → ties lt t y ≡ true → ⊥
  no-ties t x y less h k = false≢true (sym (order.chain x t y (tied-right t x h) (tied-left t y k)) ∙ less)

  above-lower : (x y : X) (ys : List X) → lt y x ≡ false → Above y ys → Above x ys
  above-lower x y [] h a = tt
  above-lower x y (z ∷ zs) h a = (order.chain z y x a.0 h, above-lower x y zs h a.1)

  above-put : (z x : X) (ys : List X) → lt x z ≡ false → Above z ys → Above z (put x ys)
  above-put z x [] h a = (h, tt)
  above-put z x (y ∷ ys) h a =
      elim (lt y x) as (λ b. Above z (if b then y ∷ put x ys else x ∷ y ∷ ys)) [
        | true ↦ (a.0, above-put z x ys h a.1)
        | false ↦ (h, a)
      ]

  up-put : (x : X) (ys : List X) → Up ys → Up (put x ys)
  up-put x [] u = (tt, tt)
  up-put x (y ∷ ys) u =
      elim (lt y x) as (λ b. lt y x ≡ b → Up (if b then y ∷ put x ys else x ∷ y ∷ ys)) [
        | true ↦ λ e. (above-put y x ys (order.one_way y x e) u.0, up-put x ys u.1)
        | false ↦ λ e. ((e, above-lower x y ys e u.0), u)
      ] refl

  pub up-all : (xs : List X) → Up (put_all xs)
  up-all [] = tt
  up-all (x ∷ xs) = up-put x (put_all xs) (up-all xs)

  -- among ties, the inserted element is the first
  kept-put : (t x : X) (ys : List X) → filter (ties lt t) (put x ys) ≡ filter (ties lt t) (x ∷ ys)
  kept-put t x [] = refl
  kept-put t x (y ∷ ys) =
      elim (lt y x) as (λ b. lt y x ≡ b → filter (ties lt t) (if b then y ∷ put x ys else x ∷ y ∷ ys) ≡ filter (ties lt t) (x ∷ y ∷ ys)) [
        | true ↦ λ e.
            ap (λ l. cond (ties lt t y) (y ∷ l) l) (kept-put t x ys)
            ∙ turn (ties lt t y) (ties lt t x) y x (filter (ties lt t) ys) (no-ties t y x e)
        | false ↦ λ e. refl
      ] refl

  kept-all : (t : X) (xs : List X) → filter (ties lt t) (put_all xs) ≡ filter (ties lt t) xs
  kept-all t [] = refl
  kept-all t (x ∷ xs) = kept-put t x (put_all xs) ∙ ap (λ l. cond (ties lt t x) (x ∷ l) l) (kept-all t xs)

  -- an element that is less than all of a list ties with none
  none-tie : (x y : X) (ys : List X) → lt x y ≡ true → Above y ys → filter (ties lt x) ys ≡ []
  none-tie x y [] less a = refl
  none-tie x y (z ∷ zs) less a =
      elim (ties lt x z) as (λ b. ties lt x z ≡ b → cond b (z ∷ filter (ties lt x) zs) (filter (ties lt x) zs) ≡ []) [
        | true ↦ λ e. absurd (false≢true (sym (order.chain x z y (tied-left x z e) a.0) ∙ less))
        | false ↦ λ e. none-tie x y zs less a.1
      ] refl

  first-kept : (x : X) (xs : List X) → filter (ties lt x) (x ∷ xs) ≡ x ∷ filter (ties lt x) xs
  first-kept x xs = ap (λ b. cond b (x ∷ filter (ties lt x) xs) (filter (ties lt x) xs)) (tied x x (irreflexive x) (irreflexive x))

  -- the first of one list can't be less than the first of the other
  not-less : (x : X) (xs : List X) (y : X) (ys : List X) → Up (y ∷ ys) → filter (ties lt x) (x ∷ xs) ≡ filter (ties lt x) (y ∷ ys) → lt x y ≡ false
  not-less x xs y ys u same =
      elim (lt x y) as (λ b. lt x y ≡ b → b ≡ false) [
        | true ↦ λ e. let none : x ∷ filter (ties lt x) xs ≡ [] = sym (first-kept x xs) ∙ same ∙ none-tie x y (y ∷ ys) e (irreflexive y, u.0) in absurd (cc none)
        | false ↦ λ e. refl
      ] refl

  rest-kept : (b : Bool) (x : X) (xs ys : List X) → cond b (x ∷ xs) xs ≡ cond b (x ∷ ys) ys → xs ≡ ys
  rest-kept true x xs ys h = cc h
  rest-kept false x xs ys h = h

  one-order : (xs ys : List X) → Up xs → Up ys → ((t : X) → filter (ties lt t) xs ≡ filter (ties lt t) ys) → xs ≡ ys
  one-order [] [] u v same = refl
  one-order [] (y ∷ ys) u v same = absurd (cc (same y, first-kept y ys))
  one-order (x ∷ xs) [] u v same = absurd (cc (same x, first-kept x xs))
  one-order (x ∷ xs) (y ∷ ys) u v same =
      let low = not-less x xs y ys v (same x) in
      let high = not-less y ys x xs u (sym (same y)) in
      let among : ties lt x y ≡ true = tied x y low high in
      let firsts : x ∷ filter (ties lt x) xs ≡ y ∷ filter (ties lt x) ys =
      sym (first-kept x xs) ∙ same x ∙ ap (λ b. cond b (y ∷ filter (ties lt x) ys) (filter (ties lt x) ys)) among in
      let first : x ≡ y = cc firsts in
      let rest : xs ≡ ys = one-order xs ys u.1 v.1 (λ t. rest-kept (ties lt t x) x (filter (ties lt t) xs) (filter (ties lt t) ys) (same t ∙ ap (λ z. cond (ties lt t z) (z ∷ filter (ties lt t) ys) (filter (ties lt t) ys)) (sym first))) in
      ap (λ l. x ∷ l) rest ∙ ap (λ z. z ∷ ys) first

  pub stable-is : (xs ys : List X) → IsSortedBy lt ys → IsStableBy lt xs ys → ys ≡ put_all xs
  stable-is xs ys sorted stable = one-order ys (put_all xs) (up-from ys sorted) (up-all xs) (λ t. stable t ∙ sym (kept-all t xs))
