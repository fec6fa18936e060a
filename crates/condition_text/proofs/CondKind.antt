-- Conditions as a kind of text, without numbers of their own.
use Rattle.std.proofs.Common.{◌≡◌, ℕ, Bool, false, ◌&&◌, ◌||◌, List, [], ◌∷◌, Option, Some, None, Result, refl, sym, ◌∙◌}
use Rattle.std.specs.Prelude.{◌==◌, if◌then◌else◌}
use Rattle.std.proofs.lemmas.Bool.{false≢true}
use Rattle.plan_types.specs.declared.range.Spec.{Spec}
use Rattle.plan_types.specs.declared.refusal.Cause.{Cause}
use Rattle.plan_types.specs.declared.refusal.Cause.TheVariants.{NeedsVersion, TooDeep, BadCond}
use Rattle.plan_types.specs.Format.{is_old}
use Rattle.text_grammar.proofs.TextKind.{Digits, Kind, ends_with}
use Rattle.text_grammar.proofs.FrontReaders.{Apart, NoDigit}

abbrev pub no_bytes : Digits
no_bytes = record { digit = λ b. false; on = λ b. false; digit_on = λ b h. refl; blank_on = λ b h. refl }

abbrev pub is_opener : ℕ → Bool
is_opener b = b == 40 || b == 33

abbrev pub is_open : ℕ → Bool
is_open b = b == 40

-- the bytes that only the wider grammar reads
abbrev pub wide_cause : Spec → ℕ → Option Cause
wide_cause spec b = if is_opener b then Some TooDeep else if is_old spec && b == 123 then Some NeedsVersion else None

abbrev pub cond_kind : Spec → Kind
cond_kind spec = record { digits = no_bytes; newer = λ rest. false; wide = wide_cause spec; due = BadCond; other = BadCond }

pub ends_none : (front : List ℕ) → ends_with no_bytes.digit front ≡ false
ends_none [] = refl
ends_none (b ∷ []) = refl
ends_none (b ∷ c ∷ front) = ends_none (c ∷ front)

pub apart : (front rest : List ℕ) → Apart no_bytes front rest
apart front rest d = absurd (false≢true (sym (ends_none front) ∙ d))

pub no_digit_stands : {A : Type 0} (P : List ℕ → Result A Cause) (front : List ℕ) → NoDigit no_bytes P front
no_digit_stands P front digit again is = absurd (false≢true is)
