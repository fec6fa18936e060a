-- Stable sorting.
use Rattle.std.specs.Prelude.{Bool, List, [], ◌∷◌, if◌then◌else◌}

-- inserts before the first that isn't less
abbrev pub put : {X : Type 0} → (X → X → Bool) → X → List X → List X
put lt x [] = x ∷ []
put lt x (y ∷ ys) = if lt y x then y ∷ put lt x ys else x ∷ y ∷ ys

-- the list in rising order; equal elements keep their order
abbrev pub in_order : {X : Type 0} → (X → X → Bool) → List X → List X
in_order lt [] = []
in_order lt (x ∷ xs) = put lt x (in_order lt xs)
