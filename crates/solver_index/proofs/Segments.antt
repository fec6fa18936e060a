-- Segments of places whose versions are all inside the cuts or all outside.
use Rattle.std.proofs.Common.{◌≡◌, ℕ, ◌<◌, ◌≤◌, Bool, true, false, List, [], ◌++◌, length, get_or, sym, ap, ◌∙◌, inl, inr, arith, append_assoc}
use Rattle.std.specs.List.{filter}
use Rattle.std.specs.List.Sorted.{IsNonDecreasing}
use Rattle.std.proofs.lemmas.Bool.{cases_lt}
use Rattle.std.proofs.lemmas.List.{append-nil}
use Rattle.std.proofs.lemmas.List.Elements.{filter-append}
use Rattle.std.proofs.lemmas.List.{get_or_default}
use Rattle.solver_index.specs.Places.{between, rising}
use Rattle.solver_index.specs.RangeBounds.{HasNoBound}
use Rattle.solver_index.proofs.ListLaws.{between-has, between-join, between-none, rising-between}
use Rattle.common_laws.specs.Lists.{filter-all, filter-nothing}

module _ (test : ℕ → Bool) where
  pub segment-kept : (front : List ℕ) (first last : ℕ) → ((i : ℕ) → first ≤ i → i < last → test first ≡ test i) → test first ≡ true → front ++ between first last ≡ front ++ filter test (between first last)
  segment-kept front first last uniform is =
      ap (λ l. front ++ l) (sym (filter-all test (between first last) (λ i h. let within = between-has first last i h in sym (uniform i within.0 within.1) ∙ is)))

  pub segment-dropped : (front : List ℕ) (first last : ℕ) → ((i : ℕ) → first ≤ i → i < last → test first ≡ test i) → test first ≡ false → front ≡ front ++ filter test (between first last)
  segment-dropped front first last uniform is =
      sym (append-nil front) ∙ ap (λ l. front ++ l) (sym (filter-nothing test (between first last) (λ i h. let within = between-has first last i h in sym (uniform i within.0 within.1) ∙ is)))

  pub segment-empty : (front : List ℕ) (first last : ℕ) → last ≤ first → front ≡ front ++ filter test (between first last)
  segment-empty front first last h = sym (append-nil front) ∙ ap (λ l. front ++ filter test l) (sym (between-none first last h))

  pub segments-joined : (front : List ℕ) (a b c : ℕ) → a ≤ b → b ≤ c → (front ++ filter test (between a b)) ++ filter test (between b c) ≡ front ++ filter test (between a c)
  segments-joined front a b c low high =
      append_assoc front (filter test (between a b)) (filter test (between b c))
      ∙ ap (λ l. front ++ l) (sym (filter-append test (between a b) (between b c)) ∙ ap (filter test) (sym (between-join a b c low high)))

  pub halves-joined : (n r : ℕ) → r ≤ n → ([] ++ filter test (between 0 r)) ++ filter test (between r n) ≡ filter test (rising n)
  halves-joined n r h = segments-joined [] 0 r n (omega arith) h ∙ ap (filter test) (sym (rising-between n))

-- no bound lies in a segment that ends at the next one
pub free-segment : (bounds : List ℕ) (index first i : ℕ) → IsNonDecreasing bounds → index < length bounds → ((k : ℕ) → k < index → get_or bounds k 0 ≤ first) → i < get_or bounds index 0 → HasNoBound bounds first i
free-segment bounds index first i rise here earlier less t (k, below, is) after =
    let same : get_or bounds k 0 ≡ t = get_or_default bounds k 0 t below ∙ is in
    elim (cases_lt k index) [
      | inl before ↦ let least = earlier k before in absurd (omega (arith, least, same, after))
      | inr behind ↦ let most = rise index k 0 behind below in omega (arith, most, same, less)
    ]

-- no bound lies in the segment behind the last bound
pub free-end : (bounds : List ℕ) (first i : ℕ) → ((k : ℕ) → k < length bounds → get_or bounds k 0 ≤ first) → HasNoBound bounds first i
free-end bounds first i earlier t (k, below, is) after =
    let same : get_or bounds k 0 ≡ t = get_or_default bounds k 0 t below ∙ is in
    let least = earlier k below in
    absurd (omega (arith, least, same, after))
