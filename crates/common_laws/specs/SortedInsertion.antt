-- Insertion sort is stable.
use Rattle.std.proofs.Common.{◌≡◌, ◌+◌, ◌<◌, ℕ, zero, suc, Bool, true, false, not, cond, if◌then◌else◌, List, [], ◌∷◌, length, get_or, refl, sym, ap, ◌∙◌, arith}
use Rattle.std.specs.List.{filter}
use Rattle.std.specs.List.Sorted.{IsPermutation, IsSortedBy, IsStableBy, ties}
use Rattle.std.specs.Cmp.{IsStrictWeakOrder}
use Rattle.std.proofs.lemmas.Bool.{false≢true, and_parts, not-true}
use Rattle.std.proofs.lemmas.List.Sorted.{IsPermutation-cons, IsPermutation-middle, IsPermutation-refl, IsPermutation-sym, IsPermutation-trans}
use Rattle.common_laws.specs.StableSorts.{put, put_all}

swapped : {X : Type 0} (a b : Bool) (x y : X) (l : List X) → (a ≡ true → b ≡ true → ⊥) → cond a (x ∷ cond b (y ∷ l) l) (cond b (y ∷ l) l) ≡ cond b (y ∷ cond a (x ∷ l) l) (cond a (x ∷ l) l)
swapped true true x y l never = absurd (never refl refl)
swapped true false x y l never = refl
swapped false true x y l never = refl
swapped false false x y l never = refl

module _ {X : Type 0} (lt : X → X → Bool) (order : IsStrictWeakOrder lt) where
  abbrev into : X → List X → List X
  into x ys = put lt order x ys

  -- ---- the same elements

  into_by : (x y : X) (ys : List X) (t : Bool) → IsPermutation (x ∷ ys) (into x ys) → IsPermutation (x ∷ y ∷ ys) (if t then y ∷ into x ys else x ∷ y ∷ ys)
  into_by x y ys true p =
      IsPermutation-trans (x ∷ y ∷ ys) (y ∷ x ∷ ys) (y ∷ into x ys)
      (IsPermutation-sym (y ∷ x ∷ ys) (x ∷ y ∷ ys) (IsPermutation-middle (y ∷ []) x ys)) (IsPermutation-cons y (x ∷ ys) (into x ys) p)
  into_by x y ys false p = IsPermutation-refl (x ∷ y ∷ ys)

  into_moves : (x : X) (ys : List X) → IsPermutation (x ∷ ys) (into x ys)
  into_moves x [] = IsPermutation-refl (x ∷ [])
  into_moves x (y ∷ ys) = into_by x y ys (lt y x) (into_moves x ys)

  pub all_move : (xs : List X) → IsPermutation xs (put_all lt order xs)
  all_move [] = IsPermutation-refl []
  all_move (x ∷ xs) =
      IsPermutation-trans (x ∷ xs) (x ∷ put_all lt order xs) (into x (put_all lt order xs))
      (IsPermutation-cons x xs (put_all lt order xs) (all_move xs)) (into_moves x (put_all lt order xs))

  -- ---- sorted

  abbrev Rises : List X → Type 0
  Rises [] = Unit {0}
  Rises (x ∷ []) = Unit {0}
  Rises (x ∷ y ∷ ys) = (lt y x ≡ false) × Rises (y ∷ ys)

  tail_rises : (x : X) (xs : List X) → Rises (x ∷ xs) → Rises xs
  tail_rises x [] r = tt
  tail_rises x (y ∷ ys) r = r.1

  behind_by : (y x z : X) (zs : List X) (t : Bool) → lt x y ≡ false → lt z y ≡ false → Rises (if t then z ∷ into x zs else x ∷ z ∷ zs) → Rises (y ∷ (if t then z ∷ into x zs else x ∷ z ∷ zs))
  behind_by y x z zs true h k r = (k, r)
  behind_by y x z zs false h k r = (h, r)

  behind : (y x : X) (ys : List X) → lt x y ≡ false → Rises (y ∷ ys) → Rises (into x ys) → Rises (y ∷ into x ys)
  behind y x [] h r s = (h, tt)
  behind y x (z ∷ zs) h r s = behind_by y x z zs (lt z x) h r.0 s

  rises_by : (x y : X) (ys : List X) (t : Bool) → lt y x ≡ t → Rises (y ∷ ys) → Rises (into x ys) → Rises (if t then y ∷ into x ys else x ∷ y ∷ ys)
  rises_by x y ys true e r s = behind y x ys (order.one_way y x e) r s
  rises_by x y ys false e r s = (e, r)

  into_rises : (x : X) (ys : List X) → Rises ys → Rises (into x ys)
  into_rises x [] r = tt
  into_rises x (y ∷ ys) r = rises_by x y ys (lt y x) refl r (into_rises x ys (tail_rises y ys r))

  all_rise : (xs : List X) → Rises (put_all lt order xs)
  all_rise [] = tt
  all_rise (x ∷ xs) = into_rises x (put_all lt order xs) (all_rise xs)

  neighbours : (xs : List X) → Rises xs → (k : ℕ) (d : X) → k + 1 < length xs → lt (get_or xs (k + 1) d) (get_or xs k d) ≡ false
  neighbours [] r k d l = absurd (omega (arith, l))
  neighbours (x ∷ []) r k d l = absurd (omega (arith, l))
  neighbours (x ∷ y ∷ ys) r zero d l = r.0
  neighbours (x ∷ y ∷ ys) r (suc k) d l =
      let e : suc k + 1 ≡ suc (k + 1) = omega arith in
      ap (λ n. lt (get_or (x ∷ y ∷ ys) n d) (get_or (y ∷ ys) k d)) e ∙ neighbours (y ∷ ys) r.1 k d (omega (arith, l))

  pub all_sorted : (xs : List X) → IsSortedBy lt (put_all lt order xs)
  all_sorted xs k d low high = neighbours (put_all lt order xs) (all_rise xs) k d high

  -- ---- ties keep their order

  tied_left : (x y : X) → ties lt x y ≡ true → lt x y ≡ false
  tied_left x y h = not-true (lt x y) ((and_parts (not (lt x y)) (not (lt y x)) h).0)

  tied_right : (x y : X) → ties lt x y ≡ true → lt y x ≡ false
  tied_right x y h = not-true (lt y x) ((and_parts (not (lt x y)) (not (lt y x)) h).1)

  never_both : (t x y : X) → lt x y ≡ true → ties lt t x ≡ true → ties lt t y ≡ true → ⊥
  never_both t x y less h k = false≢true (sym (order.chain x t y (tied_right t x h) (tied_left t y k)) ∙ less)

  kept_by : (t x y : X) (ys : List X) (b : Bool) → lt y x ≡ b → filter (ties lt t) (into x ys) ≡ filter (ties lt t) (x ∷ ys)
      → filter (ties lt t) (if b then y ∷ into x ys else x ∷ y ∷ ys) ≡ filter (ties lt t) (x ∷ y ∷ ys)
  kept_by t x y ys true e k =
      ap (λ l. cond (ties lt t y) (y ∷ l) l) k ∙ swapped (ties lt t y) (ties lt t x) y x (filter (ties lt t) ys) (never_both t y x e)
  kept_by t x y ys false e k = refl

  into_kept : (t x : X) (ys : List X) → filter (ties lt t) (into x ys) ≡ filter (ties lt t) (x ∷ ys)
  into_kept t x [] = refl
  into_kept t x (y ∷ ys) = kept_by t x y ys (lt y x) refl (into_kept t x ys)

  pub all_stable : (xs : List X) → IsStableBy lt xs (put_all lt order xs)
  all_stable [] t = refl
  all_stable (x ∷ xs) t = into_kept t x (put_all lt order xs) ∙ ap (λ l. cond (ties lt t x) (x ∷ l) l) (all_stable xs t)
