-- Decidable properties: some value has it, or none does.
use Rattle.std.proofs.Common.{◌≡◌, ◌⊎◌, inl, inr, ℕ, Bool, true, false, List, [], ◌∷◌, ◌++◌, refl, sym, ◌∙◌}
use Rattle.std.specs.Prelude.{◌==◌}
use Rattle.std.proofs.lemmas.Bool.{eqb-true, eq-eqb, false≢true}
use Rattle.std.proofs.lemmas.Slice.Eq.{bytes_eq-Decides}
use Rattle.plan_types.specs.Bytes.{same_text}
use Rattle.plan_types.specs.declared.refusal.Cause.TheVariants.{BadConstraint}
use Rattle.common_laws.specs.Small.{head_same, tail_same}
use Rattle.constraint_text.specs.Faults.{IsBadConstraint}
use Rattle.every_reading.specs.Answered.{Answered}

abbrev pub Decided : {A : Type 0} → (A → Type 0) → Type 0
Decided {A} P = ((x : A) × P x) ⊎ ((x : A) → P x → ⊥)

-- a part that denotes nothing has the fault `BadConstraint`
pub bad_as_none : {A : Type 0} (Part : List ℕ → A → Type 0) (part : List ℕ) → Decided (Part part) → Answered (Part part) (IsBadConstraint Part part)
bad_as_none Part part (inl found) = inl found
bad_as_none Part part (inr never) = inr (BadConstraint, record { is = refl; stands_for_none = never })

-- two texts are equal, or aren't
pub same_or_other : (xs ys : List ℕ) → (xs ≡ ys) ⊎ (xs ≡ ys → ⊥)
same_or_other xs ys = by (same_text xs ys) refl
  where
    by : (t : Bool) → same_text xs ys ≡ t → (xs ≡ ys) ⊎ (xs ≡ ys → ⊥)
    by true q = inl ((bytes_eq-Decides xs ys).0 q)
    by false q = inr (λ e. false≢true (sym q ∙ (bytes_eq-Decides xs ys).1 e))

-- whether a text begins with this prefix, and its rest
pub front_decided : (front text : List ℕ) → Decided (λ (rest : List ℕ). text ≡ front ++ rest)
front_decided [] text = inl (text, refl)
front_decided (x ∷ front) [] = inr (λ rest e. absurd (cc e))
front_decided (x ∷ front) (b ∷ text) = by (b == x) refl (front_decided front text)
  where
    by : (t : Bool) → (b == x) ≡ t → Decided (λ (rest : List ℕ). text ≡ front ++ rest) → Decided (λ (rest : List ℕ). b ∷ text ≡ x ∷ (front ++ rest))
    by true q (inl found) = inl (found.0, λ i. eqb-true b x q i ∷ found.1 i)
    by true q (inr never) = inr (λ rest e. never rest (tail_same e))
    by false q behind = inr (λ rest e. false≢true (sym q ∙ eq-eqb b x (head_same e)))
