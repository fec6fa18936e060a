-- The order of the instances of a package passes the test of an order.
use Rattle.std.proofs.Common.{◌≡◌, ℕ, zero, suc, ◌+◌, ◌<◌, ◌≤◌, true, false, not, ◌&&◌, nat_eq, nat_lt, List, [], ◌∷◌, length, refl, sym, ◌∙◌, subst, arith}
use Rattle.std.specs.List.{Contains, AllByRecursion, IsDistinct, list_all, range_with_len}
use Rattle.std.specs.List.Sorted.{IsPermutation}
use Rattle.std.proofs.lemmas.Bool.{false≢true, eqb-true, lt-ltb, and_from}
use Rattle.std.proofs.lemmas.List.FromFn.{length-range_with_len, get_or-range_with_len}
use Rattle.std.proofs.lemmas.List.Sorted.{Contains-permutation, IsPermutation-sym, length_permutation}
use Rattle.std.proofs.lemmas.Map.Keys.{IsDistinct-IsPermutation}
use Rattle.std.specs.Cmp.{nat_eq_equiv}
use Rattle.common_laws.specs.Lists.{all-from, any-at}
use Rattle.choice_problem.specs.Written.{is_among, has_each_below, is_once, is_order}
use Rattle.choice_problem.specs.WrittenLaws.{each-from}
use Rattle.solver_index.proofs.ListLaws.{range-has}
use Rattle.cabal_problem.proofs.Findings.{each-at}

once-from : (values : List ℕ) → IsDistinct nat_eq values → is_once values ≡ true
unfolding IsDistinct
once-from [] h = refl
once-from (n ∷ values) h =
    and_from (not (is_among values n)) (is_once values)
    (elim (is_among values n) as (λ b. is_among values n ≡ b → not b ≡ true) [
      | true ↦ λ e.
          let found = any-at (λ m. nat_eq m n) values e in
          absurd (false≢true (sym (each-at (λ y. nat_eq n y ≡ false) values found.0 h.0 found.1) ∙ nat_eq_equiv.symm n found.0 ∙ found.2))
      | false ↦ λ e. refl
    ] refl)
    (once-from values h.1)

range-all : (P : ℕ → Type 0) (a n : ℕ) → ((x : ℕ) → a ≤ x → P x) → AllByRecursion P (range_with_len a n)
range-all P a zero h = tt
range-all P a (suc n) h = (h a (omega arith), range-all P (a + 1) n (λ x low. h x (omega (arith, low))))

range-once : (a n : ℕ) → IsDistinct nat_eq (range_with_len a n)
unfolding IsDistinct
range-once a zero = tt
range-once a (suc n) = (
  range-all (λ y. nat_eq a y ≡ false) (a + 1) n (λ y low. elim (nat_eq a y) as (λ b. nat_eq a y ≡ b → b ≡ false) [
    | true ↦ λ e. let same = eqb-true a y e in absurd (omega (arith, low, same))
    | false ↦ λ e. refl
  ] refl),
  range-once (a + 1) n,
)

in-range : (n x : ℕ) → x < n → Contains (range_with_len 0 n) x
in-range n x h = (x, omega (arith, length-range_with_len 0 n, h), (let same : 0 + x ≡ x = omega arith in get_or-range_with_len 0 n x x h ∙ same))

pub permuted_is_order : (n : ℕ) (values : List ℕ) → IsPermutation (range_with_len 0 n) values → (length values ≡ n) × (is_order values ≡ true)
permuted_is_order n values h =
    let long : length values ≡ n = length_permutation (range_with_len 0 n) values h ∙ length-range_with_len 0 n in
    let back = IsPermutation-sym (range_with_len 0 n) values h in (
      long,
      and_from (list_all (λ m. nat_lt m (length values)) values) (has_each_below (length values) values && is_once values)
          (all-from (λ m. nat_lt m (length values)) values (λ x k.
          lt-ltb x (length values) (subst (λ m. x < m) (sym long) (let place = (range-has 0 n x (Contains-permutation values (range_with_len 0 n) x back k)).1 in omega (arith, place)))))
          (and_from (has_each_below (length values) values) (is_once values)
          (each-from (length values) values (λ x less. Contains-permutation (range_with_len 0 n) values x h (in-range n x (subst (λ m. x < m) long less))))
          (once-from values (IsDistinct-IsPermutation nat_eq nat_eq_equiv.symm (range_with_len 0 n) values h (range-once 0 n)))),
    )
