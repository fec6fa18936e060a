-- Facts of a list of values, from the same facts of each.
use Rattle.std.proofs.Common.{◌≡◌, ◌≤◌, ◌+◌, ◌||◌, ℕ, true, false, max, List, [], ◌∷◌, ◌++◌, map, flat_map, refl, sym, ap, ap₂, ◌∙◌, arith, append_assoc}
use Rattle.std.proofs.lemmas.Bool.{or_from}
use Rattle.serde_json.specs.Data.{Data, depth, items_depth}
use Rattle.serde_json.specs.View.{items_of}
use Rattle.serde_json.specs.Written.{compact_text, has_float, items_have_float, items_text}
use Rattle.plan_json.specs.Texts.{behind_comma, list_text}
use Rattle.plan_json.specs.Values.{list_of}

-- ---- its text

module _ {A : Type 0} (value : A → Data) (text : A → List ℕ) (same : (x : A) → compact_text (value x) ≡ text x) where
  rest-text : (xs : List A) → items_text true (items_of (map value xs)) ≡ flat_map (behind_comma text) xs ++ 93 ∷ []
  rest-text [] = refl
  rest-text (x ∷ xs) =
      ap₂ (λ t r. 44 ∷ (t ++ r)) (same x) (rest-text xs) ∙ ap (λ l. 44 ∷ l) (sym (append_assoc (text x) (flat_map (behind_comma text) xs) (93 ∷ [])))

  pub list-text : (xs : List A) → compact_text (list_of value xs) ≡ list_text text xs
  list-text [] = refl
  list-text (x ∷ xs) = ap₂ (λ t r. 91 ∷ (t ++ r)) (same x) (rest-text xs)

-- ---- no fractions, and the depth

pub list-whole : {A : Type 0} (value : A → Data) → ((x : A) → has_float (value x) ≡ false) → (xs : List A) → has_float (list_of value xs) ≡ false
list-whole value whole [] = refl
list-whole value whole (x ∷ xs) = or_from (has_float (value x)) (items_have_float (items_of (map value xs))) (whole x) (list-whole value whole xs)

pub at-most : (a b n : ℕ) → a ≤ n → b ≤ n → max a b ≤ n
at-most a b n h k = omega (arith, h, k)

items-deep : {A : Type 0} (value : A → Data) (n : ℕ) → ((x : A) → depth (value x) ≤ n) → (xs : List A) → items_depth (items_of (map value xs)) ≤ n
items-deep value n deep [] = omega arith
items-deep value n deep (x ∷ xs) = at-most (depth (value x)) (items_depth (items_of (map value xs))) n (deep x) (items-deep value n deep xs)

pub list-deep : {A : Type 0} (value : A → Data) (n : ℕ) → ((x : A) → depth (value x) ≤ n) → (xs : List A) → depth (list_of value xs) ≤ n + 1
list-deep value n deep xs = let inside = items-deep value n deep xs in omega (arith, inside)
