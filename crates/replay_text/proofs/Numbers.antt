-- Numbers whose first digit isn't 0.
use Rattle.std.proofs.Common.{◌≡◌, ◌+◌, ℕ, true, false, List, [], ◌∷◌, ◌++◌, length, refl, sym, ap, ◌∙◌, arith}
use Rattle.std.specs.Prelude.{◌==◌}
use Rattle.std.specs.Fmt.{decimal}
use Rattle.std.specs.Char.{is_ascii_digit}
use Rattle.std.specs.Str.{all_ascii_digits}
use Rattle.std.proofs.lemmas.Bool.{and_parts}
use Rattle.std.proofs.lemmas.Fmt.{decimal_injective}
use Rattle.version_range.specs.Version.{IsNumber, begins_with_digit}
use Rattle.version_range.proofs.VersionNumbers.{decimal_digits}

append-nil : {X : Type 0} (xs : List X) → xs ++ [] ≡ xs
append-nil [] = refl
append-nil (x ∷ xs) = ap (λ l. x ∷ l) (append-nil xs)

-- if all bytes of a text are digits, no digit behind a prefix means no byte behind it
rest_none : (a rest : List ℕ) → all_ascii_digits (a ++ rest) ≡ true → begins_with_digit rest ≡ false → rest ≡ []
rest_none [] [] d n = refl
rest_none [] (b ∷ rest) d n = absurd (let k = (and_parts (is_ascii_digit b) (all_ascii_digits rest) d).0 in let wrong : false ≡ true = sym n ∙ k in cc)
rest_none (x ∷ a) rest d n = rest_none a rest (and_parts (is_ascii_digit x) (all_ascii_digits (a ++ rest)) d).1 n

-- a text without a number at its front isn't a number
pub none_whole : (text : List ℕ) → ((n : ℕ) (rest : List ℕ) → IsNumber n → text ≡ decimal n ++ rest → begins_with_digit rest ≡ true)
    → (place : ℕ) → IsNumber (place + 1) → text ≡ decimal (place + 1) → ⊥
none_whole text h place i e = let wrong : false ≡ true = h (place + 1) [] i (e ∙ sym (append-nil (decimal (place + 1)))) in cc

-- the number at the front of a whole number is that number
pub same_number : (text rest : List ℕ) (number place : ℕ) → IsNumber number → text ≡ decimal number ++ rest → begins_with_digit rest ≡ false → IsNumber (place + 1) → text ≡ decimal (place + 1)
    → (rest ≡ []) × (number ≡ place + 1)
same_number text rest number place i e n j w =
    let none = rest_none (decimal number) rest (ap all_ascii_digits (sym e ∙ w) ∙ decimal_digits (place + 1) j) n in
    let same : decimal number ≡ decimal (place + 1) = sym (append-nil (decimal number)) ∙ ap (λ r. decimal number ++ r) (sym none) ∙ sym e ∙ w in
    (none, decimal_injective number (place + 1) (omega (arith, i)) (omega (arith, j)) same)

pub not_empty : (rest : List ℕ) → rest ≡ [] → length rest == 0 ≡ false → ⊥
not_empty rest e n = let wrong : true ≡ false = sym (ap (λ (l : List ℕ). length l == 0) e) ∙ n in cc
