-- Shared: lists of numbers below a bound.
use Rattle.std.proofs.Common.{◌≡◌, ℕ, zero, suc, ◌+◌, ◌<◌, ◌≤◌, arith, length, get_or, Bool, true, false, cond, List, [], ◌∷◌, ◌++◌, filter, subst, ◌∙◌}
use Rattle.std.proofs.lemmas.List.{get_or_default}
use Rattle.std.specs.List.{Contains}
use Rattle.qualified_goals.specs.declared.variable.Var.{Var}
use Rattle.choice_problem.specs.declared.problem.Demand.{Demand}
use Rattle.choice_problem.specs.Active.{asks_for}
use Rattle.demand_agreement.specs.Places.{AllBelow, places_from}

pub below-at : (n : ℕ) (xs : List ℕ) (k : ℕ) → AllBelow n xs → k < length xs → get_or xs k 0 < n
below-at n [] k h within = absurd (omega (arith, within))
below-at n (x ∷ xs) zero h within = h.0
below-at n (x ∷ xs) (suc k) h within = below-at n xs k h.1 (omega (arith, within))

pub below-filter : (n : ℕ) (test : ℕ → Bool) (xs : List ℕ) → AllBelow n xs → AllBelow n (filter test xs)
below-filter n test [] h = tt
below-filter n test (x ∷ xs) h =
    elim (test x) as (λ b. AllBelow n (cond b (x ∷ filter test xs) (filter test xs))) [ true ↦ (h.0, below-filter n test xs h.1) | false ↦ below-filter n test xs h.1 ]

pub below-more : (n m : ℕ) (xs : List ℕ) → n ≤ m → AllBelow n xs → AllBelow m xs
below-more n m [] le h = tt
below-more n m (x ∷ xs) le h = (let less : x < m = omega (arith, le, h.0) in less, below-more n m xs le h.1)

pub below-append : (n : ℕ) (xs ys : List ℕ) → AllBelow n xs → AllBelow n ys → AllBelow n (xs ++ ys)
below-append n [] ys h k = k
below-append n (x ∷ xs) ys h k = (h.0, below-append n xs ys h.1 k)

pub below-one : (n : ℕ) (xs : List ℕ) (x : ℕ) → AllBelow n xs → Contains xs x → x < n
below-one n xs x h (k, within, is) = subst (λ y. y < n) (get_or_default xs k 0 x within ∙ is) (below-at n xs k h within)

-- the places of demands are below their number
pub places-below : (n m : ℕ) (v : Var) (demands : List Demand) → n + length demands ≡ m → AllBelow m (places_from n v demands)
places-below n m v [] h = tt
places-below n m v (d ∷ demands) h =
    let rest = places-below (suc n) m v demands (omega (arith, h)) in
    elim (asks_for v d) as (λ b. AllBelow m (cond b (n ∷ places_from (suc n) v demands) (places_from (suc n) v demands))) [
      | true ↦ (let less : n < m = omega (arith, h) in less, rest)
      | false ↦ rest
    ]
