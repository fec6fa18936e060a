-- One more step of a loop that appends.
use Rattle.std.proofs.Common.{◌≡◌, ℕ, ◌<◌, ◌+◌, Bool, true, false, cond, List, [], ◌∷◌, ◌++◌, length, map, take, drop, flat_map, get_or, append_assoc, append-nil, sym, ap, ◌∙◌}
use Rattle.std.specs.Prelude.{filter}
use Rattle.std.proofs.lemmas.Grind.{flat_map-append}
use Rattle.std.proofs.lemmas.List.{map-append}
use Rattle.common_laws.specs.Lists.{drop_at, take_at}

module _ {A B : Type 0} (f : A → List B) (xs : List A) (i : ℕ) (x : A) (within : i < length xs) (at : x ≡ get_or xs i x) where
  one_turn : flat_map f (take (i + 1) xs) ≡ flat_map f (take i xs) ++ f x
  one_turn =
      ap (flat_map f) (take_at xs i x within at) ∙ flat_map-append f (take i xs) (x ∷ []) ∙ ap (λ l. flat_map f (take i xs) ++ l) (append-nil (f x))

  -- any number of items for each
  pub turn : (start before after : List B) → before ≡ start ++ flat_map f (take i xs) → after ≡ before ++ f x → after ≡ start ++ flat_map f (take (i + 1) xs)
  turn start before after so_far more =
      more ∙ ap (λ l. l ++ f x) so_far ∙ append_assoc start (flat_map f (take i xs)) (f x) ∙ ap (λ l. start ++ l) (sym one_turn)

module _ {A B : Type 0} (f : A → B) (xs : List A) (i : ℕ) (x : A) (within : i < length xs) (at : x ≡ get_or xs i x) where
  -- one item for each
  pub turn_map : (start before after : List B) → before ≡ start ++ map f (take i xs) → after ≡ before ++ f x ∷ [] → after ≡ start ++ map f (take (i + 1) xs)
  turn_map start before after so_far more =
      more ∙ ap (λ l. l ++ f x ∷ []) so_far ∙ append_assoc start (map f (take i xs)) (f x ∷ [])
      ∙ ap (λ l. start ++ l) (sym (ap (map f) (take_at xs i x within at) ∙ map-append f (take i xs) (x ∷ [])))

module _ {A B : Type 0} (f : A → List B) (xs : List A) (i : ℕ) (x : A) (within : i < length xs) (at : x ≡ get_or xs i x) where
  module _ (test : A → Bool) where
    abbrev kept : List A → List B
    kept ys = flat_map f (filter test ys)

    abbrev behind : List B
    behind = kept (drop (i + 1) xs)

    front : (b : Bool) → test x ≡ b → kept (drop i xs) ≡ flat_map f (cond b (x ∷ filter test (drop (i + 1) xs)) (filter test (drop (i + 1) xs)))
    front b h = ap kept (drop_at xs i x within at) ∙ ap (λ c. flat_map f (cond c (x ∷ filter test (drop (i + 1) xs)) (filter test (drop (i + 1) xs)))) h

    -- an item that passes a test
    pub turn_yes : (before after total : List B) → before ++ kept (drop i xs) ≡ total → test x ≡ true → after ≡ before ++ f x → after ++ behind ≡ total
    turn_yes before after total so_far passes more =
        ap (λ l. l ++ behind) more ∙ append_assoc before (f x) behind ∙ ap (λ l. before ++ l) (sym (front true passes)) ∙ so_far

    -- an item that fails the test
    pub turn_no : (before after total : List B) → before ++ kept (drop i xs) ≡ total → test x ≡ false → after ≡ before → after ++ behind ≡ total
    turn_no before after total so_far fails same =
        ap (λ l. l ++ behind) same ∙ ap (λ l. before ++ l) (sym (front false fails)) ∙ so_far
