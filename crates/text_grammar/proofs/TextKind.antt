-- Shared: kinds of texts: their digits, and the causes of their faults.
use Rattle.std.proofs.Common.{◌≡◌, ℕ, Bool, true, false, List, [], ◌∷◌, Option}
use Rattle.std.specs.Prelude.{if◌then◌else◌}
use Rattle.plan_types.specs.Bytes.{is_blank}
use Rattle.plan_types.specs.declared.refusal.Cause.{Cause}
use Rattle.plan_types.specs.declared.refusal.Cause.TheVariants.{NeedsVersion}

-- The digits, and the bytes that continue a text that ends with a digit. A kind of text without numbers
-- has neither.
pub record Digits : Type 0 where
  pub digit : ℕ → Bool
  pub on : ℕ → Bool
  pub digit_on : (b : ℕ) → on b ≡ false → digit b ≡ false
  pub blank_on : (b : ℕ) → is_blank b ≡ true → on b ≡ false

-- The syntax of a later version, the bytes that only the wider grammar reads (each with a cause), the
-- cause of a missing or misplaced digit, and the cause of every other fault.
pub record Kind : Type 0 where
  pub digits : Digits
  pub newer : List ℕ → Bool
  pub wide : ℕ → Option Cause
  pub due : Cause
  pub other : Cause

-- the cause where the byte that is due is no digit
abbrev pub miss : Kind → List ℕ → Cause
miss kind rest = if kind.newer rest then NeedsVersion else kind.other

abbrev pub IsNewer : Kind → List ℕ → Type 0
IsNewer kind rest = kind.newer rest ≡ true

-- whether the first byte passes a test
abbrev pub starts : (ℕ → Bool) → List ℕ → Bool
starts test [] = false
starts test (b ∷ bs) = test b

-- whether the last byte passes a test
abbrev pub ends_with : (ℕ → Bool) → List ℕ → Bool
ends_with test [] = false
ends_with test (b ∷ []) = test b
ends_with test (b ∷ c ∷ bs) = ends_with test (c ∷ bs)
