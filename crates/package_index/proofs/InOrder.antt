-- Sorted lists: they have the same elements, and they rise strictly if keys differ.
use Rattle.std.proofs.Common.{◌≡◌, ℕ, Bool, true, false, ◌||◌, if◌then◌else◌, inl, inr, List, [], ◌∷◌, map, refl, sym, ap, ◌∙◌, Ordering, Less, Equal, Greater, is_lt}
use Rattle.std.specs.Cmp.{IsTotalOrder}
use Rattle.std.specs.List.{AllByRecursion, IsDistinct, list_any}
use Rattle.std.specs.List.Sorted.{IsStrictlySortedBy}
use Rattle.std.specs.Ordering.{ordering_reverse}
use Rattle.std.specs.Cmp.Lexicographic.{bytes_decides}
use Rattle.std.proofs.lemmas.Bool.{false≢true, or_cases, or_left, or_right}
use Rattle.std.proofs.lemmas.Cmp.{nat_list_eq_equiv}
use Rattle.index_assembly.specs.Order.{in_order, put}
use Rattle.common_laws.specs.Each.{each-map, each-of-map, each-then}
use Rattle.plan_types.specs.Bytes.{same_text}
use Rattle.common_laws.specs.Small.{is-less}

module _ {X : Type 0} (lt : X → X → Bool) where
  pub each-put : (P : X → Type 0) (x : X) (xs : List X) → P x → AllByRecursion P xs → AllByRecursion P (put lt x xs)
  each-put P x [] h all = (h, tt)
  each-put P x (y ∷ ys) h all =
      elim (lt y x) as (λ b. AllByRecursion P (if b then y ∷ put lt x ys else x ∷ y ∷ ys)) [
        | true ↦ (all.0, each-put P x ys h all.1)
        | false ↦ (h, all)
      ]

  pub each-in-order : (P : X → Type 0) (xs : List X) → AllByRecursion P xs → AllByRecursion P (in_order lt xs)
  each-in-order P [] all = tt
  each-in-order P (x ∷ xs) all = each-put P x (in_order lt xs) all.0 (each-in-order P xs all.1)

  some-put : (p : X → Bool) (x : X) (xs : List X) → list_any p (x ∷ xs) ≡ true → list_any p (put lt x xs) ≡ true
  some-put p x [] some = some
  some-put p x (y ∷ ys) some =
      elim (lt y x) as (λ b. list_any p (if b then y ∷ put lt x ys else x ∷ y ∷ ys) ≡ true) [
        | true ↦ elim (or_cases (p x) (p y || list_any p ys) some) [
          | inl e ↦ or_right (p y) (list_any p (put lt x ys)) (some-put p x ys (or_left (p x) (list_any p ys) e))
          | inr rest ↦ elim (or_cases (p y) (list_any p ys) rest) [
            | inl e ↦ or_left (p y) (list_any p (put lt x ys)) e
            | inr e ↦ or_right (p y) (list_any p (put lt x ys)) (some-put p x ys (or_right (p x) (list_any p ys) e))
          ]
        ]
        | false ↦ some
      ]

  pub some-in-order : (p : X → Bool) (xs : List X) → list_any p xs ≡ true → list_any p (in_order lt xs) ≡ true
  some-in-order p [] some = some
  some-in-order p (x ∷ xs) some = some-put p x (in_order lt xs) (elim (or_cases (p x) (list_any p xs) some) [
    | inl e ↦ or_left (p x) (list_any p (in_order lt xs)) e
    | inr e ↦ or_right (p x) (list_any p (in_order lt xs)) (some-in-order p xs e)
  ])

-- an order under which only elements with equal keys tie
module _ {X : Type 0} (cmp : X → X → Ordering) (key : X → List ℕ) (total : IsTotalOrder cmp) (tells : (a b : X) → cmp a b ≡ Equal → key a ≡ key b) where
  abbrev below : X → X → Bool
  below a b = is_lt (cmp a b)

  abbrev IsApart : X → X → Type 0
  IsApart a b = same_text (key a) (key b) ≡ false

  apart-back : (a b : X) → IsApart a b → IsApart b a
  apart-back a b apart = nat_list_eq_equiv.symm (key b) (key a) ∙ apart

  -- the second isn't less, and the keys differ, so the first is less
  other-less : (a b : X) → below b a ≡ false → IsApart a b → cmp a b ≡ Less
  other-less a b over apart = by (cmp b a) refl
    where
      by : (o : Ordering) → cmp b a ≡ o → cmp a b ≡ Less
      by Less e = absurd (false≢true (sym over ∙ ap is_lt e))
      by Equal e = absurd (false≢true (sym (apart-back a b apart) ∙ (bytes_decides (key b) (key a)).1 (tells b a e)))
      by Greater e = total.antisymm a b ∙ ap ordering_reverse e

  rises-put : (x : X) (xs : List X) → AllByRecursion (IsApart x) xs → IsStrictlySortedBy cmp xs → IsStrictlySortedBy cmp (put below x xs)
  unfolding IsStrictlySortedBy
  rises-put x [] apart rises = (tt, tt)
  rises-put x (y ∷ ys) apart rises =
      elim (below y x) as (λ b. below y x ≡ b → IsStrictlySortedBy cmp (if b then y ∷ put below x ys else x ∷ y ∷ ys)) [
        | true ↦ λ e. (each-put below (λ z. cmp y z ≡ Less) x ys (is-less (cmp y x) e) rises.0, rises-put x ys apart.1 rises.1)
        | false ↦ λ e.
            let low = other-less x y e apart.0 in
            ((low, each-then (λ z. cmp y z ≡ Less) (λ z. cmp x z ≡ Less) ys (λ z more. total.trans x y z low more) rises.0), rises)
      ] refl

  once-put : (x : X) (xs : List X) → AllByRecursion (IsApart x) xs → IsDistinct same_text (map key xs) → IsDistinct same_text (map key (put below x xs))
  unfolding IsDistinct
  once-put x [] apart once = (tt, tt)
  once-put x (y ∷ ys) apart once =
      elim (below y x) as (λ b. IsDistinct same_text (map key (if b then y ∷ put below x ys else x ∷ y ∷ ys))) [
        | true ↦ (
          each-map (λ k. same_text (key y) k ≡ false) key (put below x ys)
              (each-put below (IsApart y) x ys (apart-back x y apart.0) (each-of-map (λ k. same_text (key y) k ≡ false) key ys once.0)),
          once-put x ys apart.1 once.1,
        )
        | false ↦ (each-map (λ k. same_text (key x) k ≡ false) key (y ∷ ys) apart, once)
      ]

  pub rises-in-order : (xs : List X) → IsDistinct same_text (map key xs) → IsStrictlySortedBy cmp (in_order below xs)
  unfolding IsStrictlySortedBy IsDistinct
  rises-in-order [] once = tt
  rises-in-order (x ∷ xs) once =
      rises-put x (in_order below xs)
      (each-in-order below (IsApart x) xs (each-of-map (λ k. same_text (key x) k ≡ false) key xs once.0)) (rises-in-order xs once.1)

  pub once-in-order : (xs : List X) → IsDistinct same_text (map key xs) → IsDistinct same_text (map key (in_order below xs))
  unfolding IsDistinct
  once-in-order [] once = tt
  once-in-order (x ∷ xs) once =
      once-put x (in_order below xs)
      (each-in-order below (IsApart x) xs (each-of-map (λ k. same_text (key x) k ≡ false) key xs once.0)) (once-in-order xs once.1)

-- keys rise as their elements do
pub keys-rise : {X K : Type 0} (cmp : K → K → Ordering) (key : X → K) (xs : List X) → IsStrictlySortedBy (λ a b. cmp (key a) (key b)) xs → IsStrictlySortedBy cmp (map key xs)
unfolding IsStrictlySortedBy
keys-rise cmp key [] rises = tt
keys-rise cmp key (x ∷ xs) rises = (each-map (λ k. cmp (key x) k ≡ Less) key xs rises.0, keys-rise cmp key xs rises.1)
