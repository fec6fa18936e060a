-- Decidability of properties of numbers, and of all numbers below a bound; the least number with a property.
use Rattle.std.proofs.Common.{◌≡◌, ◌⊎◌, inl, inr, ◌<◌, ◌≤◌, ℕ, zero, suc, Bool, true, false, refl, sym, ◌∙◌, subst, arith}
use Rattle.std.specs.Prelude.{◌==◌, nat_lt}
use Rattle.std.proofs.lemmas.Bool.{eqb-false, eqb-true, eq-eqb, false≢true, ltb-false, ltb-true}

abbrev pub Dec : Type 0 → Type 0
Dec P = P ⊎ (P → ⊥)

pub is_true : (b : Bool) → Dec (b ≡ true)
is_true true = inl refl
is_true false = inr (λ e. false≢true e)

pub same : (a b : ℕ) → Dec (a ≡ b)
same a b = by (a == b) refl
  where
    by : (t : Bool) → (a == b) ≡ t → Dec (a ≡ b)
    by true q = inl (eqb-true a b q)
    by false q = inr (λ e. false≢true (sym q ∙ eq-eqb a b e))

pub less : (a b : ℕ) → Dec (a < b)
less a b = by (nat_lt a b) refl
  where
    by : (t : Bool) → nat_lt a b ≡ t → Dec (a < b)
    by true q = inl (ltb-true a b q)
    by false q = inr (λ l. let other = ltb-false a b q in omega (arith, l, other))

pub both : {P Q : Type 0} → Dec P → Dec Q → Dec (P × Q)
both (inl p) (inl q) = inl (p, q)
both (inl p) (inr denied) = inr (λ h. denied h.1)
both (inr denied) q = inr (λ h. denied h.0)

pub never : {P : Type 0} → Dec P → Dec (P → ⊥)
never (inl p) = inr (λ denied. denied p)
never (inr denied) = inl denied

-- ---- all below a number

module _ (P : ℕ → Type 0) where
  abbrev pub SomeBelow : ℕ → Type 0
  SomeBelow n = ((k : ℕ) × (k < n) × P k) ⊎ ((k : ℕ) → k < n → P k → ⊥)

  below_more : (n : ℕ) → ((k : ℕ) → k < n → P k → ⊥) → (P n → ⊥) → (k : ℕ) → k < suc n → P k → ⊥
  below_more n none denied k l p = by (k == n) refl
    where
      by : (t : Bool) → (k == n) ≡ t → ⊥
      by true q = denied (subst P (eqb-true k n q) p)
      by false q = let other = eqb-false k n q in none k (omega (arith, other, l)) p

  below_by : (n : ℕ) → SomeBelow n → Dec (P n) → SomeBelow (suc n)
  below_by n (inl found) here = let l = found.1 in inl (found.0, omega (arith, l), found.2)
  below_by n (inr none) (inl p) = inl (n, omega arith, p)
  below_by n (inr none) (inr denied) = inr (below_more n none denied)

  pub some_below : (n : ℕ) → ((k : ℕ) → k < n → Dec (P k)) → SomeBelow n
  some_below zero dec = inr (λ k l p. omega (arith, l))
  some_below (suc n) dec = below_by n (some_below n (λ k l. dec k (omega (arith, l)))) (dec n (omega arith))

  abbrev pub LeastBelow : ℕ → Type 0
  LeastBelow n = ((k : ℕ) × P k × ((j : ℕ) → P j → k ≤ j)) ⊎ ((k : ℕ) → k < n → P k → ⊥)

  not_above : (n : ℕ) → ((k : ℕ) → k < n → P k → ⊥) → (j : ℕ) → P j → n ≤ j
  not_above n none j p = by (nat_lt j n) refl
    where
      by : (t : Bool) → nat_lt j n ≡ t → n ≤ j
      by true q = absurd (none j (ltb-true j n q) p)
      by false q = ltb-false j n q

  least_by : (n : ℕ) → LeastBelow n → Dec (P n) → LeastBelow (suc n)
  least_by n (inl found) here = inl found
  least_by n (inr none) (inl p) = inl (n, p, not_above n none)
  least_by n (inr none) (inr denied) = inr (below_more n none denied)

  pub least_below : (n : ℕ) → ((k : ℕ) → Dec (P k)) → LeastBelow n
  least_below zero dec = inr (λ k l p. omega (arith, l))
  least_below (suc n) dec = least_by n (least_below n dec) (dec n)
