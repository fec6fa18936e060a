-- What is made of the items at the front of a list.
use Rattle.std.proofs.Common.{◌≡◌, ◌<◌, ◌+◌, ℕ, suc, Bool, true, false, cond, List, [], ◌∷◌, ◌++◌, filter, flat_map, length, map, take, get_or, refl, ap, ◌∙◌, arith}
use Rattle.std.proofs.lemmas.List.{append-nil, map-append, take_more}
use Rattle.std.proofs.lemmas.List.Elements.{filter-append}
use Rattle.std.proofs.lemmas.List.Concat.{flat_map-append}
use Rattle.solver_index.specs.Places.{rising}

alone : {X Y : Type 0} (f : X → Y) (x : X) (b : Bool) → map f (cond b (x ∷ []) []) ≡ cond b (f x ∷ []) []
alone f x true = refl
alone f x false = refl

-- with the next one
pub picked-more : {X Y : Type 0} (f : X → Y) (test : X → Bool) (xs : List X) (i : ℕ) (none : X) (b : Bool) → i < length xs → test (get_or xs i none) ≡ b
    → map f (filter test (take (i + 1) xs)) ≡ map f (filter test (take i xs)) ++ cond b (f (get_or xs i none) ∷ []) []
picked-more {X} {Y} f test xs i none b below e =
    let x = get_or xs i none in
    ap (λ l. map f (filter test l)) (take_more xs i none below) ∙ ap (map f) (filter-append test (take i xs) (x ∷ []))
    ∙ map-append f (filter test (take i xs)) (filter test (x ∷ []))
    ∙ ap (λ (l : List Y). map f (filter test (take i xs)) ++ l) (ap (λ (c : Bool). map f (cond c (x ∷ []) [])) e ∙ alone f x b)

-- what is made of the numbers below one, with the next one
pub flat-more : {Y : Type 0} (f : ℕ → List Y) (n : ℕ) → flat_map f (rising (n + 1)) ≡ flat_map f (rising n) ++ f n
flat-more {Y} f n =
    let next : n + 1 ≡ suc n = omega arith in
    ap (λ m. flat_map f (rising m)) next ∙ flat_map-append f (rising n) (n ∷ []) ∙ ap (λ (l : List Y). flat_map f (rising n) ++ l) (append-nil (f n))
