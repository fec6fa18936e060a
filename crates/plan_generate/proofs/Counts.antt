-- Steps of the lists of packages and versions, and of the numbers of draws.
use Rattle.std.proofs.Common.{◌≡◌, ℕ, zero, suc, ◌+◌, ◌-◌, ◌*◌, ◌<◌, ◌≤◌, Bool, true, false, [], ◌∷◌, ◌++◌, take, refl, ap, ◌∙◌, arith}
use Rattle.std.specs.Prelude.{nat_lt, if◌then◌else◌}
use Rattle.std.specs.List.{range_with_len}
use Rattle.plan_generate.specs.Draws.{after_draws, draws_before, draws_each, drawn}

range-more : (a k j : ℕ) → a + k ≡ j → range_with_len a (suc k) ≡ range_with_len a k ++ j ∷ []
range-more a zero j e = let same : a ≡ j = omega (arith, e) in ap (λ n. n ∷ []) same
range-more a (suc k) j e = ap (λ l. a ∷ l) (range-more (a + 1) k j (omega (arith, e)))

-- one more package
pub counted : (n : ℕ) → 1 ≤ n → range_with_len 1 (n + 1 - 1) ≡ range_with_len 1 (n - 1) ++ n ∷ []
counted n some = let count : n + 1 - 1 ≡ suc (n - 1) = omega (arith, some) in ap (range_with_len 1) count ∙ range-more 1 (n - 1) n (omega (arith, some))

-- one more version
pub versions : (v : ℕ) → 1 ≤ v → v < 4 → take (v + 1 - 1) (1 ∷ 2 ∷ 3 ∷ []) ≡ take (v - 1) (1 ∷ 2 ∷ 3 ∷ []) ++ v ∷ []
versions zero some few = absurd (omega (arith, some))
versions (suc zero) some few = refl
versions (suc (suc zero)) some few = refl
versions (suc (suc (suc zero))) some few = refl
versions (suc (suc (suc (suc v)))) some few = absurd (omega (arith, few))

pub after-more : (x m n : ℕ) → after_draws (after_draws x m) n ≡ after_draws x (m + n)
after-more x m zero = let none : m ≡ m + 0 = omega arith in ap (after_draws x) none
after-more x m (suc n) = let one : suc (m + n) ≡ m + suc n = omega arith in ap drawn (after-more x m n) ∙ ap (after_draws x) one

pub before-more : (number v : ℕ) → 1 ≤ v → draws_before number v + draws_each number ≡ draws_before number (v + 1)
before-more number v some = by (nat_lt 1 number)
  where
    by : (b : Bool) → 6 * (number - 2) + (if b then 2 else 0) * (v - 1) + (if b then 2 else 0) ≡ 6 * (number - 2) + (if b then 2 else 0) * (v + 1 - 1)
    by true = omega (arith, some)
    by false = omega (arith, some)
