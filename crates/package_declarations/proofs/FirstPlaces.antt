-- Shared: the first position that passes a test, also with one more element.
use Rattle.std.proofs.Common.{◌≡◌, ℕ, zero, suc, ◌+◌, ◌<◌, Bool, true, false, cond, ◌||◌, List, [], ◌∷◌, ◌++◌, length, refl, sym, ap, ◌∙◌, arith}
use Rattle.std.specs.Prelude.{Option, Some, None, position, slice_get, nat_lt}
use Rattle.std.specs.List.{list_any, position_from, position_or_len}
use Rattle.std.proofs.lemmas.Bool.{ltb-true}
use Rattle.std.proofs.lemmas.Option.{cond_some}
use Rattle.std.proofs.lemmas.Iterator.Adapters.{position_from-zero}

abbrev pub or_else : Option ℕ → Option ℕ → Option ℕ
or_else None other = other
or_else (Some n) other = Some n

pub or-else-kept : (o other : Option ℕ) → (o ≡ None → other ≡ None) → o ≡ or_else o other
or-else-kept None other h = sym (h refl)
or-else-kept (Some n) other h = refl

module _ {X : Type 0} (test : X → Bool) where
  from-push : (i : ℕ) (xs : List X) (x : X) → position_from test i (xs ++ x ∷ []) ≡ or_else (position_from test i xs) (cond (test x) (Some (i + length xs)) None)
  from-push i [] x = let e : i ≡ i + length {A = X} [] = omega arith in ap (λ n. cond (test x) (Some n) None) e
  from-push i (y ∷ ys) x =
      elim (test y) as (λ b. cond b (Some i) (position_from test (i + 1) (ys ++ x ∷ [])) ≡ or_else (cond b (Some i) (position_from test (i + 1) ys)) (cond (test x) (Some (i + length (y ∷ ys))) None)) [
        | true ↦ refl
        | false ↦
            let e : i + 1 + length ys ≡ i + length (y ∷ ys) = omega arith in
            from-push (i + 1) ys x ∙ ap (λ n. or_else (position_from test (i + 1) ys) (cond (test x) (Some n) None)) e
      ]

  pub position-push : (xs : List X) (x : X) → position test (xs ++ x ∷ []) ≡ or_else (position test xs) (cond (test x) (Some (length xs)) None)
  position-push xs x =
      let e : 0 + length xs ≡ length xs = omega arith in
      position_from-zero test (xs ++ x ∷ []) ∙ from-push 0 xs x
      ∙ (λ i. or_else (sym (position_from-zero test xs) i) (cond (test x) (Some (e i)) None))

  pub position-inside : (xs : List X) (n : ℕ) → position test xs ≡ Some n → n < length xs
  position-inside xs n h =
      let parts = cond_some (nat_lt (position_or_len test xs) (length xs)) (position_or_len test xs) n h in
      omega (arith, ltb-true (position_or_len test xs) (length xs) parts.0, parts.1)

  from-none : (i : ℕ) (xs : List X) → position_from test i xs ≡ None → list_any test xs ≡ false
  from-none i [] h = refl
  from-none i (x ∷ xs) h =
      elim (test x) as (λ b. cond b (Some i) (position_from test (i + 1) xs) ≡ None → (b || list_any test xs) ≡ false) [
        | true ↦ λ e. absurd (cc e)
        | false ↦ λ e. from-none (i + 1) xs e
      ] h

  pub position-none : (xs : List X) → position test xs ≡ None → list_any test xs ≡ false
  position-none xs h = from-none 0 xs (sym (position_from-zero test xs) ∙ h)

pub get-push : (xs : List ℕ) (x p : ℕ) → p < length xs → slice_get (xs ++ x ∷ []) p ≡ slice_get xs p
get-push [] x p h = absurd (omega (arith, h))
get-push (y ∷ ys) x zero h = refl
get-push (y ∷ ys) x (suc p) h = get-push ys x p (omega (arith, h))

pub get-last : (xs : List ℕ) (x p : ℕ) → p ≡ length xs → slice_get (xs ++ x ∷ []) p ≡ Some x
get-last [] x zero h = refl
get-last [] x (suc p) h = absurd (omega (arith, h))
get-last (y ∷ ys) x zero h = absurd (omega (arith, h))
get-last (y ∷ ys) x (suc p) h = get-last ys x p (omega (arith, h))
