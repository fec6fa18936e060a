-- Elements without a mark.
use Rattle.std.proofs.Common.{◌≡◌, ℕ, zero, suc, Bool, true, false, List, [], ◌∷◌, map, Some, refl, sym, ap, ◌∙◌}
use Rattle.std.specs.Prelude.{slice_index_or}
use Rattle.std.specs.List.{AllByRecursion, IsDistinct, list_any, slice_get}
use Rattle.std.proofs.lemmas.Bool.{false≢true, or_left, or_right}
use Rattle.std.proofs.lemmas.Option.{none-some, same_Some}
use Rattle.index_assembly.specs.Entries.{unmarked}
use Rattle.common_laws.specs.Each.{each-at, each-map, each-of-map}
use Rattle.plan_types.specs.Bytes.{same_text}

abbrev pub IsUnmarked : List Bool → ℕ → Type 0
IsUnmarked marks i = slice_index_or marks i false ≡ false

module _ {X : Type 0} where
  pub each-unmarked : (P : X → Type 0) (marks : List Bool) (xs : List X) → ((i : ℕ) (x : X) → slice_get xs i ≡ Some x → IsUnmarked marks i → P x) → AllByRecursion P (unmarked marks xs)
  each-unmarked P [] [] f = tt
  each-unmarked P [] (x ∷ xs) f = (f 0 x refl refl, each-unmarked P [] xs (λ i y at clear. f (suc i) y at clear))
  each-unmarked P (mark ∷ marks) [] f = tt
  each-unmarked P (true ∷ marks) (x ∷ xs) f = each-unmarked P marks xs (λ i y at clear. f (suc i) y at clear)
  each-unmarked P (false ∷ marks) (x ∷ xs) f = (f 0 x refl refl, each-unmarked P marks xs (λ i y at clear. f (suc i) y at clear))

  pub some-unmarked : (p : X → Bool) (marks : List Bool) (xs : List X) (i : ℕ) (x : X) → slice_get xs i ≡ Some x → IsUnmarked marks i → p x ≡ true → list_any p (unmarked marks xs) ≡ true
  some-unmarked p [] [] i x at clear passes = absurd (none-some x at)
  some-unmarked p [] (y ∷ xs) zero x at clear passes = or_left (p y) (list_any p xs) (ap p (same_Some y x at) ∙ passes)
  some-unmarked p [] (y ∷ xs) (suc i) x at clear passes = or_right (p y) (list_any p xs) (some-unmarked p [] xs i x at refl passes)
  some-unmarked p (mark ∷ marks) [] i x at clear passes = absurd (none-some x at)
  some-unmarked p (true ∷ marks) (y ∷ xs) zero x at clear passes = absurd (false≢true (sym clear))
  some-unmarked p (true ∷ marks) (y ∷ xs) (suc i) x at clear passes = some-unmarked p marks xs i x at clear passes
  some-unmarked p (false ∷ marks) (y ∷ xs) zero x at clear passes = or_left (p y) (list_any p (unmarked marks xs)) (ap p (same_Some y x at) ∙ passes)
  some-unmarked p (false ∷ marks) (y ∷ xs) (suc i) x at clear passes = or_right (p y) (list_any p (unmarked marks xs)) (some-unmarked p marks xs i x at clear passes)

  pub once-unmarked : (key : X → List ℕ) (marks : List Bool) (xs : List X) → IsDistinct same_text (map key xs) → IsDistinct same_text (map key (unmarked marks xs))
  unfolding IsDistinct
  once-unmarked key [] xs once = once
  once-unmarked key (mark ∷ marks) [] once = tt
  once-unmarked key (true ∷ marks) (x ∷ xs) once = once-unmarked key marks xs once.1
  once-unmarked key (false ∷ marks) (x ∷ xs) once =
      let apart = each-of-map (λ k. same_text (key x) k ≡ false) key xs once.0 in
      (each-map (λ k. same_text (key x) k ≡ false) key (unmarked marks xs) (each-unmarked (λ y. same_text (key x) (key y) ≡ false) marks xs (λ i y at clear. each-at (λ z. same_text (key x) (key z) ≡ false) xs i y apart at)), once-unmarked key marks xs once.1)
