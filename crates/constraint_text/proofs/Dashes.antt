-- The last `-` of a text.
use Rattle.std.proofs.Common.{◌≡◌, ℕ, ◌+◌, ◌<◌, ◌≤◌, Bool, true, false, List, [], ◌∷◌, ◌++◌, length, take, drop, get_or, Option, Some, None, refl, sym, ap, ◌∙◌, subst, arith}
use Rattle.std.specs.Prelude.{◌&&◌, ◌==◌, not, MatchOption}
use Rattle.std.specs.List.{list_all}
use Rattle.std.proofs.lemmas.Bool.{eqb-true, and_from, and_parts, true≢false}
use Rattle.std.proofs.lemmas.List.{take_more, drop_all, length-take-le, drop-append-le}
use Rattle.std.proofs.lemmas.List.Folds.{list_all-append}
use Rattle.constraint_text.specs.Relaxes.{is_no_dash}
use Rattle.common_laws.specs.Small.{tail_same, head_same}

-- the index of the last `-` among the first n bytes
abbrev pub LastDash : List ℕ → ℕ → Option ℕ → Type 0
LastDash text n found = MatchOption found (list_all is_no_dash (take n text) ≡ true) (λ at. (at < n) × (get_or text at 0 ≡ 45) × (list_all is_no_dash (drop (at + 1) (take n text)) ≡ true))

pub here_dash : (text : List ℕ) (n : ℕ) → n < length text → get_or text n 0 ≡ 45 → LastDash text (n + 1) (Some n)
here_dash text n h e = (omega arith, e, ap (list_all is_no_dash) (drop_all (n + 1) (take (n + 1) text) (omega (arith, length-take-le (n + 1) text (omega arith)))))

push_no_dash : (xs : List ℕ) (b : ℕ) → list_all is_no_dash xs ≡ true → (b == 45) ≡ false → list_all is_no_dash (xs ++ b ∷ []) ≡ true
push_no_dash xs b h e = list_all-append is_no_dash xs (b ∷ []) ∙ and_from (list_all is_no_dash xs) (not (b == 45) && true) h (ap (λ t. not t && true) e)

pub other_byte : (text : List ℕ) (n : ℕ) (found : Option ℕ) → n < length text → (get_or text n 0 == 45) ≡ false → LastDash text n found → LastDash text (n + 1) found
other_byte text n None h e is = ap (list_all is_no_dash) (take_more text n 0 h) ∙ push_no_dash (take n text) (get_or text n 0) is e
other_byte text n (Some at) h e is = (
  omega (arith, is.0),
  is.1,
  ap (λ t. list_all is_no_dash (drop (at + 1) t)) (take_more text n 0 h)
      ∙ ap (list_all is_no_dash) (drop-append-le (at + 1) (take n text) (get_or text n 0 ∷ []) (omega (arith, is.0, length-take-le n text (omega arith))))
      ∙ push_no_dash (drop (at + 1) (take n text)) (get_or text n 0) is.2 e,
)

pub whole_text : (text : List ℕ) (n : ℕ) (found : Option ℕ) → length text ≤ n → LastDash text n found → LastDash text n found
whole_text text n found h is = is

inside : (c d : List ℕ) → list_all is_no_dash (c ++ 45 ∷ d) ≡ true → ⊥
inside [] d h = true≢false (sym h)
inside (x ∷ c) d h = inside c d (and_parts (is_no_dash x) (list_all is_no_dash (c ++ 45 ∷ d)) h).1

pub same_cut : (a c b d : List ℕ) → list_all is_no_dash b ≡ true → list_all is_no_dash d ≡ true → a ++ 45 ∷ b ≡ c ++ 45 ∷ d → (a ≡ c) × (b ≡ d)
same_cut [] [] b d h k e = (refl, tail_same e)
same_cut [] (y ∷ c) b d h k e = absurd (inside c d (subst (λ t. list_all is_no_dash t ≡ true) (tail_same e) h))
same_cut (x ∷ a) [] b d h k e = absurd (inside a b (subst (λ t. list_all is_no_dash t ≡ true) (sym (tail_same e)) k))
same_cut (x ∷ a) (y ∷ c) b d h k e = let p = same_cut a c b d h k (tail_same e) in ((λ i. head_same e i ∷ p.0 i), p.1)

pub not_eq : (a b : ℕ) → (a ≡ b → ⊥) → (a == b) ≡ false
not_eq a b h = by (a == b) refl
  where
    by : (t : Bool) → (a == b) ≡ t → (a == b) ≡ false
    by true q = absurd (h (eqb-true a b q))
    by false q = q
