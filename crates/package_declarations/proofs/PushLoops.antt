-- A loop that pushes the image of each item.
use Rattle.std.proofs.Common.{◌≡◌, ℕ, ◌+◌, ◌<◌, ◌≤◌, length, List, [], ◌∷◌, ◌++◌, map, flat_map, get_or, drop, sym, ap, ◌∙◌, append_assoc}
use Rattle.std.proofs.lemmas.List.{append-nil, drop_all}
use Rattle.common_laws.specs.Lists.{drop_at}

module _ {A B : Type 0} (f : A → B) where
  pub one_pushed : (xs : List A) (i : ℕ) (x : A) (y : B) (old : List B) {new all : List B} → i < length xs → x ≡ get_or xs i x → y ≡ f x → new ≡ old ++ y ∷ [] →
      old ++ map f (drop i xs) ≡ all → new ++ map f (drop (i + 1) xs) ≡ all
  one_pushed xs i x y old h is one push goes =
      ap (λ v. v ++ map f (drop (i + 1) xs)) push
      ∙ append_assoc old (y ∷ []) (map f (drop (i + 1) xs))
      ∙ ap (λ v. old ++ v ∷ map f (drop (i + 1) xs)) one
      ∙ ap (λ v. old ++ map f v) (sym (drop_at xs i x h is))
      ∙ goes

  pub all_pushed : (xs : List A) (i : ℕ) (old : List B) {all : List B} → length xs ≤ i → old ++ map f (drop i xs) ≡ all → old ≡ all
  all_pushed xs i old h goes = sym (append-nil old) ∙ ap (λ v. old ++ map f v) (sym (drop_all i xs h)) ∙ goes

module _ {A C B : Type 0} (show : A → C) (f : C → List B) where
  pub some_pushed : (xs : List A) (i : ℕ) (x : A) (old : List B) {new all : List B} → i < length xs → x ≡ get_or xs i x → new ≡ old ++ f (show x) →
      old ++ flat_map f (map show (drop i xs)) ≡ all → new ++ flat_map f (map show (drop (i + 1) xs)) ≡ all
  some_pushed xs i x old h is push goes =
      ap (λ v. v ++ flat_map f (map show (drop (i + 1) xs))) push
      ∙ append_assoc old (f (show x)) (flat_map f (map show (drop (i + 1) xs)))
      ∙ ap (λ v. old ++ flat_map f (map show v)) (sym (drop_at xs i x h is))
      ∙ goes

  pub each_pushed : (xs : List A) (i : ℕ) (old : List B) {all : List B} → length xs ≤ i → old ++ flat_map f (map show (drop i xs)) ≡ all → old ≡ all
  each_pushed xs i old h goes = sym (append-nil old) ∙ ap (λ v. old ++ flat_map f (map show v)) (sym (drop_all i xs h)) ∙ goes
