-- Shared: ranges as a kind of text, with numbers and points.
use Rattle.std.proofs.Common.{◌≡◌, ℕ, Bool, true, false, ◌&&◌, ◌||◌, Some, None, refl}
use Rattle.std.specs.Prelude.{◌==◌, if◌then◌else◌}
use Rattle.std.specs.Char.{is_ascii_digit}
use Rattle.std.proofs.lemmas.Bool.{or_parts, or_from, eqb-true}
use Rattle.std.proofs.Common.{sym, subst}
use Rattle.plan_types.specs.Bytes.{is_blank, begins_with}
use Rattle.plan_types.specs.declared.range.Spec.{Spec}
use Rattle.plan_types.specs.declared.refusal.Cause.TheVariants.{BadVersion, BadRange, TooDeep}
use Rattle.plan_types.specs.Format.{is_old}
use Rattle.text_grammar.proofs.TextKind.{Digits, Kind}

-- the bytes that continue a number
abbrev pub on_number : ℕ → Bool
on_number b = is_ascii_digit b || b == 46

pub no_digit : (b : ℕ) → on_number b ≡ false → is_ascii_digit b ≡ false
no_digit b h = (or_parts (is_ascii_digit b) (b == 46) h).0

pub blank_off : (b : ℕ) → is_blank b ≡ true → on_number b ≡ false
blank_off b h = by (b == 32) refl (b == 9) refl
  where
    at : (c : ℕ) → on_number c ≡ false → (b == c) ≡ true → on_number b ≡ false
    at c none e = subst (λ x. on_number x ≡ false) (sym (eqb-true b c e)) none

    by : (s : Bool) → (b == 32) ≡ s → (t : Bool) → (b == 9) ≡ t → on_number b ≡ false
    by true q t r = at 32 refl q
    by false q true r = at 9 refl r
    by false q false r = absurd (cc (h, q, r, or_from (b == 32) (b == 9) q r))

abbrev pub decimals : Digits
decimals = record { digit = is_ascii_digit; on = on_number; digit_on = no_digit; blank_on = blank_off }

abbrev pub range_kind : Spec → Kind
range_kind spec = record { digits = decimals; newer = λ rest. is_old spec && begins_with 123 rest; wide = λ b. if b == 40 then Some TooDeep else None; due = BadVersion; other = BadRange }
