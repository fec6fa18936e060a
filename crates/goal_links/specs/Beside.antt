-- The neighbours of items in a list.
use Rattle.std.specs.Prelude.{◌≡◌, Bool, cond, List, [], ◌∷◌, ◌++◌, Option, Some, None}

-- the last item of a list, or before where the list is empty
abbrev pub last_from : {X : Type 0} → Option X → List X → Option X
last_from before [] = before
last_from before (x ∷ xs) = last_from (Some x) xs

-- the last item of a list
abbrev pub last_of : {X : Type 0} → List X → Option X
last_of xs = last_from None xs

-- the first item of a list, or behind where the list is empty
abbrev pub first_or : {X : Type 0} → Option X → List X → Option X
first_or behind [] = behind
first_or behind (x ∷ xs) = Some x

-- the first item of a list
abbrev pub first_of : {X : Type 0} → List X → Option X
first_of xs = first_or None xs

-- the neighbours of the first item that passes a test, with before in front of the list
abbrev pub beside_from : {X : Type 0} → (X → Bool) → Option X → List X → Option X × Option X
beside_from test before [] = (before, None)
beside_from test before (x ∷ xs) = cond (test x) (before, first_of xs) (beside_from test (Some x) xs)

-- the neighbours of the first item that passes a test
abbrev pub beside : {X : Type 0} → (X → Bool) → List X → Option X × Option X
beside test xs = beside_from test None xs

-- two neighbours are adjacent: they are the end and the beginning of two parts that make up the list
abbrev pub AreBeside : {X : Type 0} → Option X × Option X → List X → Type 0
AreBeside {X} sides xs =
    (front : List X) × (rest : List X) × (xs ≡ front ++ rest) × (last_of front ≡ sides.0) × (first_of rest ≡ sides.1)

-- the items behind the first one that passes a test
abbrev pub behind_first : {X : Type 0} → (X → Bool) → List X → List X
behind_first test [] = []
behind_first test (x ∷ xs) = cond (test x) xs (behind_first test xs)
