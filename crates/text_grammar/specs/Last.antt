-- The last of several values.
use Rattle.std.specs.Prelude.{List, [], ◌∷◌, Option, None}
use Rattle.std.specs.Option.{option_or}

-- the last value that `of` gives on the list
abbrev pub last_given : {A B : Type 0} → (A → Option B) → List A → Option B
last_given of [] = None
last_given of (x ∷ xs) = option_or (last_given of xs) (of x)
