-- A sorted list of numbers is unique among its permutations, where only equal numbers compare as equal.
use Rattle.std.proofs.Common.{◌≡◌, ℕ, suc, ◌+◌, ◌<◌, Bool, true, false, List, [], ◌∷◌, length, nat_eq, get_or, refl, sym, ap, ◌∙◌, subst, inl, inr, arith}
use Rattle.std.specs.List.{sum_by}
use Rattle.std.specs.List.Sorted.{IsSorted, IsPermutation}
use Rattle.std.specs.declared.cmp.Ordering.{Ordering}
use Rattle.std.specs.declared.cmp.Ordering.TheVariants.{Less, Equal, Greater}
use Rattle.std.specs.Cmp.{IsTotalOrder}
use Rattle.std.specs.Ordering.{is_lt, ordering_reverse}
use Rattle.std.proofs.lemmas.Bool.{cases_eq, false≢true, eqb-true, eq-eqb}
use Rattle.std.proofs.lemmas.List.Sums.{sum_by-cons}
use Rattle.std.proofs.lemmas.List.Sorted.{sorted_far, ranks_by, sum_by-IsPermutation}

abbrev bit : Bool → ℕ
bit true = 1
bit false = 0

abbrev one : ℕ → ℕ → ℕ
one v n = bit (nat_eq n v)

-- how often v occurs in a list
abbrev count : ℕ → List ℕ → ℕ
count v xs = sum_by (one v) xs

one-same : (v : ℕ) → one v v ≡ 1
one-same v = ap bit (eq-eqb v v refl)

one-other : (v x : ℕ) → (x ≡ v → ⊥) → one v x ≡ 0
one-other v x ne =
    elim (nat_eq x v) as (λ b. nat_eq x v ≡ b → bit b ≡ 0) [
      | true ↦ λ e. absurd (ne (eqb-true x v e))
      | false ↦ λ e. refl
    ] refl

-- a number with a count above 0 occurs in the list
found : (v : ℕ) (xs : List ℕ) → 0 < count v xs → (k : ℕ) × (k < length xs) × (get_or xs k v ≡ v)
found v [] h = absurd (omega (arith, h))
found v (x ∷ xs) h =
    elim (cases_eq x v) [
      | inl same ↦ (0, omega arith, same)
      | inr ne ↦
          let rest = found v xs (omega (arith, h, one-other v x ne, sum_by-cons (one v) x xs)) in
          (suc rest.0, omega (arith, rest.1), rest.2)
    ]

module _ (R : ℕ → ℕ → Ordering) (total : IsTotalOrder R) (ties : (x y : ℕ) → R x y ≡ Equal → x ≡ y) where
  -- no number of a sorted list comes before its first
  first-least : (x : ℕ) (xs : List ℕ) (v : ℕ) → IsSorted R (x ∷ xs) → 0 < count v (x ∷ xs) → is_lt (R v x) ≡ false
  first-least x xs v sorted some =
      let at-v = found v (x ∷ xs) some in
      subst (λ n. is_lt (R n x) ≡ false) at-v.2 (sorted_far (λ a b. is_lt (R a b)) (ranks_by total (λ (n : ℕ). n)) (x ∷ xs) sorted 0 at-v.0 v (omega arith) at-v.1)

  tail-sorted : (x : ℕ) (xs : List ℕ) → IsSorted R (x ∷ xs) → IsSorted R xs
  tail-sorted x xs sorted k d low high =
      let step : suc k + 1 ≡ suc (k + 1) = omega arith in
      subst (λ n. is_lt (R (get_or (x ∷ xs) n d) (get_or xs k d)) ≡ false) step (sorted (suc k) d (omega arith) (omega (arith, high)))

  neither : (x y : ℕ) → is_lt (R x y) ≡ false → is_lt (R y x) ≡ false → x ≡ y
  neither x y h k =
      elim (R x y) as (λ o. R x y ≡ o → x ≡ y) [
        | Less ↦ λ e. absurd (false≢true (sym h ∙ ap is_lt e))
        | Equal ↦ λ e. ties x y e
        | Greater ↦ λ e.
            let back : R y x ≡ Less = total.antisymm y x ∙ ap ordering_reverse e in
            absurd (false≢true (sym k ∙ ap is_lt back))
      ] refl

  pub sorted-same : (xs ys : List ℕ) → IsSorted R xs → IsSorted R ys → ((v : ℕ) → count v xs ≡ count v ys) → xs ≡ ys
  sorted-same [] [] s t same = refl
  sorted-same [] (y ∷ ys) s t same = absurd (omega (arith, same y, one-same y, sum_by-cons (one y) y ys))
  sorted-same (x ∷ xs) [] s t same = absurd (omega (arith, same x, one-same x, sum_by-cons (one x) x xs))
  sorted-same (x ∷ xs) (y ∷ ys) s t same =
      let x-in : 0 < count x (y ∷ ys) = omega (arith, same x, one-same x, sum_by-cons (one x) x xs) in
      let y-in : 0 < count y (x ∷ xs) = omega (arith, same y, one-same y, sum_by-cons (one y) y ys) in
      let first : x ≡ y = neither x y (first-least y ys x t x-in) (first-least x xs y s y-in) in
      let rest : xs ≡ ys = sorted-same xs ys (tail-sorted x xs s) (tail-sorted y ys t)
      (λ v. let head = ap (one v) first in omega (arith, same v, sum_by-cons (one v) x xs, sum_by-cons (one v) y ys, head)) in
      ap (λ l. x ∷ l) rest ∙ ap (λ n. n ∷ ys) first

pub permuted-count : (zs xs ys : List ℕ) → IsPermutation zs xs → IsPermutation zs ys → (v : ℕ) → count v xs ≡ count v ys
permuted-count zs xs ys p q v = sum_by-IsPermutation (one v) zs xs p ∙ sym (sum_by-IsPermutation (one v) zs ys q)
