-- Shared: prefixes of mapped lists.
use Rattle.std.proofs.Common.{◌≡◌, ℕ, ◌+◌, ◌<◌, ◌≤◌, List, [], ◌∷◌, ◌++◌, length, map, take, drop, get_or, sym, ◌∙◌, ap}
use Rattle.std.proofs.lemmas.List.{map-append, take_all, take_more, take-append-drop}

-- a prefix with one more element
pub map_take : {X A : Type 0} (f : X → A) (xs : List X) (i : ℕ) (x : X) → i < length xs → x ≡ get_or xs i x → map f (take (i + 1) xs) ≡ map f (take i xs) ++ f x ∷ []
map_take f xs i x l e =
    ap (map f) (take_more xs i x l) ∙ map-append f (take i xs) (get_or xs i x ∷ []) ∙ ap (λ y. map f (take i xs) ++ f y ∷ []) (sym e)

-- the elements before, at and after a place
pub map_split : {X A : Type 0} (f : X → A) (xs : List X) (i : ℕ) (x : X) → i < length xs → x ≡ get_or xs i x → (rest : List A) × (map f xs ≡ (map f (take i xs) ++ f x ∷ []) ++ rest)
map_split f xs i x l e = (
  map f (drop (i + 1) xs),
  ap (map f) (sym (take-append-drop (i + 1) xs)) ∙ map-append f (take (i + 1) xs) (drop (i + 1) xs) ∙ ap (λ ys. ys ++ map f (drop (i + 1) xs)) (map_take f xs i x l e),
)

-- the same, where the elements before and at the place are these
pub split_known : {X A : Type 0} (f : X → A) (xs : List X) (i : ℕ) (x : X) (done : List A) (y : A) → i < length xs → x ≡ get_or xs i x →
    done ≡ map f (take i xs) → y ≡ f x → (rest : List A) × (map f xs ≡ (done ++ y ∷ []) ++ rest)
split_known f xs i x done y l e before here =
    let split = map_split f xs i x l e in
    (split.0, split.1 ∙ (λ j. (sym before j ++ sym here j ∷ []) ++ split.0))

-- at the end of a loop all elements are done
pub all_known : {X A : Type 0} (f : X → A) (xs : List X) (i : ℕ) (done : List A) → length xs ≤ i → done ≡ map f (take i xs) → done ≡ map f xs
all_known f xs i done over before = before ∙ ap (map f) (take_all i xs over)
