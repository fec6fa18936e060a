-- A package's name has six bytes and no `/`, and `name` is injective.
use Rattle.std.proofs.Common.{◌≡◌, ℕ, zero, suc, ◌-◌, ◌<◌, ◌≤◌, false, List, [], ◌∷◌, ◌++◌, length, get_or, refl, ap, ◌∙◌, length-append, append-nil, ◌^◌, arith}
use Rattle.std.specs.Prelude.{replicate, codes, All, ◌==◌}
use Rattle.std.specs.Fmt.{char_count, decimal, format_spec, padded_integral, styled_decimal}
use Rattle.std.specs.Str.Parse.{AllDigits}
use Rattle.std.proofs.lemmas.Fmt.{decimal_is_IsNumeral, decimal_injective, first_decimal, length-decimal-le}
use Rattle.std.proofs.lemmas.List.{length-replicate}
use Rattle.std.proofs.lemmas.List.Elements.{All-nil, All-cons, All-append, All-replicate}
use Rattle.std.proofs.lemmas.Str.Parse.{digit_from_value}
use Rattle.std.proofs.lemmas.Grind.{common_steps}
use Rattle.common_laws.specs.Small.{tail_same}
use Rattle.plan_generate.specs.Text.{name}

-- a byte that isn't `/`
abbrev pub IsInside : ℕ → Type 0
IsInside b = (b == 47) ≡ false

pub digits-inside : (ds : List ℕ) → AllDigits 10 ds → All IsInside ds
digits-inside [] h = All-nil IsInside
digits-inside (d ∷ ds) h = All-cons IsInside d ds (let range = digit_from_value d h.0 in grind (arith, common_steps)) (digits-inside ds h.1)

module _ (number : ℕ) (few : number ≤ 2000) where
  pub name-length : length (name number) ≡ 6
  name-length =
      let short : length (decimal number) ≤ 5 = length-decimal-le 5 number (omega arith) (omega arith) (omega arith) in
      let both = length-append (replicate (5 - length (decimal number)) 48) (decimal number) in
      let zeros = length-replicate {A = ℕ} (5 - length (decimal number)) 48 in
      omega (arith, short, both, zeros)

  pub name-inside : All IsInside (name number)
  name-inside =
      All-append IsInside (codes "g") (replicate (5 - length (decimal number)) 48 ++ decimal number)
      (All-cons IsInside 103 [] refl (All-nil IsInside))
      (All-append IsInside (replicate (5 - length (decimal number)) 48) (decimal number)
      (All-replicate IsInside (5 - length (decimal number)) 48 refl)
      (digits-inside (decimal number) ((decimal_is_IsNumeral number (omega arith)).0.1)))

-- digits after zeros are determined if their first one isn't zero
same-digits : (m n : ℕ) (ds es : List ℕ) → 48 < get_or ds 0 0 → 48 < get_or es 0 0 → replicate m 48 ++ ds ≡ replicate n 48 ++ es → ds ≡ es
same-digits zero zero ds es h k e = e
same-digits zero (suc n) ds es h k e = let first = ap (λ l. get_or l 0 0) e in absurd (omega (arith, first, h))
same-digits (suc m) zero ds es h k e = let first = ap (λ l. get_or l 0 0) e in absurd (omega (arith, first, k))
same-digits (suc m) (suc n) ds es h k e = same-digits m n ds es h k (tail_same e)

pub name-tells : (p q : ℕ) → 0 < p → p ≤ 2000 → 0 < q → q ≤ 2000 → name p ≡ name q → p ≡ q
name-tells p q p-some p-few q-some q-few e =
    decimal_injective p q (omega arith) (omega arith)
    (same-digits (5 - length (decimal p)) (5 - length (decimal q)) (decimal p) (decimal q)
    (first_decimal p p-some (omega arith)) (first_decimal q q-some (omega arith)) (tail_same e))

-- the format of a number in five digits
pub five-digits : (n : ℕ) → styled_decimal (format_spec 32 0 4 5 (2 ^ 64 - 1)) n ≡ replicate (5 - length (decimal n)) 48 ++ decimal n
unfolding padded_integral char_count
five-digits n =
    let short : 5 - length (decimal n) - 0 - 0 ≡ 5 - length (decimal n) = omega arith in
    ap (λ k. replicate k 48 ++ (decimal n ++ [])) short ∙ ap (λ ds. replicate (5 - length (decimal n)) 48 ++ ds) (append-nil (decimal n))
