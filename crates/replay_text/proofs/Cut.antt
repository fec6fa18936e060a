-- The first line of a text.
use Rattle.std.proofs.Common.{◌≡◌, ◌<◌, ◌+◌, ℕ, suc, Bool, true, false, not, cond, List, [], ◌∷◌, length, take, drop, refl, sym, ap, ◌∙◌, arith}
use Rattle.std.specs.Prelude.{◌==◌, MatchOption, None, Option, Some}
use Rattle.std.specs.List.{onto_first, prefix_len, slice_split}
use Rattle.std.specs.Str.Lines.{lines, lines_of_parts, strip_carriage_return}
use Rattle.std.proofs.lemmas.Bool.Decides.{nat_tests}
use Rattle.std.proofs.lemmas.List.Splits.{slice_split_first}

abbrev pub ends : ℕ → Bool
ends b = b == 10

abbrev pub goes : ℕ → Bool
goes b = not (b == 10)

some_part : (xs : List ℕ) → (part : List ℕ) × (parts : List (List ℕ)) × (slice_split ends xs ≡ part ∷ parts)
some_part [] = ([], [], refl)
some_part (x ∷ xs) =
    let p = some_part xs in
    elim (x == 10) as (λ b. (part : List ℕ) × (parts : List (List ℕ)) × (cond b ([] ∷ slice_split ends xs) (onto_first x (slice_split ends xs)) ≡ part ∷ parts)) [
      | true ↦ ([], slice_split ends xs, refl)
      | false ↦ (x ∷ p.0, p.1, ap (onto_first x) p.2)
    ]

no_end : (xs : List ℕ) → prefix_len goes xs ≡ length xs → slice_split ends xs ≡ xs ∷ []
no_end [] e = refl
no_end (x ∷ xs) e =
    elim (x == 10) as (λ b. cond (not b) (1 + prefix_len goes xs) 0 ≡ suc (length xs) → cond b ([] ∷ slice_split ends xs) (onto_first x (slice_split ends xs)) ≡ (x ∷ xs) ∷ []) [
      | true ↦ λ k. absurd (omega (arith, k))
      | false ↦ λ k. ap (onto_first x) (no_end xs (omega (arith, k)))
    ] e

-- a line that has a line feed
pub lines_more : (xs : List ℕ) → prefix_len goes xs < length xs
    → lines xs ≡ strip_carriage_return (take (prefix_len goes xs) xs) ∷ lines (drop (prefix_len goes xs + 1) xs)
lines_more xs lt =
    let front = take (prefix_len goes xs) xs in
    let p = some_part (drop (prefix_len goes xs + 1) xs) in
    ap lines_of_parts (slice_split_first ends xs 0 lt) ∙ ap (λ l. lines_of_parts (front ∷ l)) p.2 ∙ ap (λ l. strip_carriage_return front ∷ lines_of_parts l) (sym p.2)

one_line : (x : ℕ) (xs : List ℕ) → lines_of_parts ((x ∷ xs) ∷ []) ≡ (x ∷ xs) ∷ []
one_line x xs = ap (λ b. cond b [] ((x ∷ xs) ∷ [])) (let e : suc (length xs) == 0 ≡ false = grind (arith, nat_tests) in e)

-- the last line, without a line feed
pub lines_last : (xs : List ℕ) → prefix_len goes xs ≡ length xs → 0 < length xs → lines xs ≡ xs ∷ []
lines_last [] e lt = absurd (omega (arith, lt))
lines_last (x ∷ xs) e lt = ap lines_of_parts (no_end (x ∷ xs) e) ∙ one_line x xs

pub last_weaker : {X : Type 0} (r : Option X) (P P' : Type 0) (Q Q' : X → Type 0) → MatchOption r P Q → (P → P') → ((x : X) → Q x → Q' x) → MatchOption r P' Q'
last_weaker None P P' Q Q' m p q = p m
last_weaker (Some x) P P' Q Q' m p q = q x m
