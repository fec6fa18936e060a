-- Bytes of texts.
use Rattle.std.specs.Prelude.{◌≡◌, ℕ, Bool, true, false, ◌||◌, ◌==◌, nat_eq, List, [], ◌∷◌, ◌++◌}
use Rattle.std.specs.Cmp.Lexicographic.{pointwise}
use Rattle.std.specs.List.{list_all}

-- two texts are the same, byte for byte
abbrev pub same_text : List ℕ → List ℕ → Bool
same_text = pointwise nat_eq

-- a space or a tab
abbrev pub is_blank : ℕ → Bool
is_blank b = b == 32 || b == 9

-- blanks only
abbrev pub Blanks : List ℕ → Type 0
Blanks text = list_all is_blank text ≡ true

-- whether the text's first byte is this one
abbrev pub begins_with : ℕ → List ℕ → Bool
begins_with byte [] = false
begins_with byte (b ∷ bs) = b == byte

-- the values of a field, joined by single spaces
abbrev pub joined_text : List (List ℕ) → List ℕ
joined_text [] = []
joined_text (value ∷ []) = value
joined_text (value ∷ next ∷ values) = value ++ 32 ∷ joined_text (next ∷ values)
