-- The forms of names.
use Rattle.std.specs.Prelude.{ℕ, Bool, false, ◌&&◌, ◌||◌, not, List, [], ◌∷◌, ◌==◌, map, nat_le}
use Rattle.std.specs.Char.{to_ascii_lowercase}
use Rattle.std.specs.List.{list_all, list_any, slice_split}
use Rattle.plan_types.specs.Bytes.{same_text}

-- an ASCII letter
abbrev pub is_letter : ℕ → Bool
is_letter b = (nat_le 65 b && nat_le b 90) || (nat_le 97 b && nat_le b 122)

-- an ASCII digit
abbrev pub is_digit : ℕ → Bool
is_digit b = nat_le 48 b && nat_le b 57

-- an ASCII letter or digit
abbrev pub is_letter_or_digit : ℕ → Bool
is_letter_or_digit b = is_letter b || is_digit b

-- letters and digits, with a letter among them
abbrev pub is_group : List ℕ → Bool
is_group bytes = list_all is_letter_or_digit bytes && list_any is_letter bytes

-- groups joined by `-`
abbrev pub is_package_name : List ℕ → Bool
is_package_name bytes = list_all is_group (slice_split (λ b. b == 45) bytes)

-- a letter, a digit, `-` or `_`
abbrev pub is_component_byte : ℕ → Bool
is_component_byte b = is_letter_or_digit b || b == 45 || b == 95

-- one or more such bytes
abbrev pub is_component_name : List ℕ → Bool
is_component_name [] = false
is_component_name (b ∷ bs) = list_all is_component_byte (b ∷ bs)

-- the name of a component that doesn't begin with `-`
abbrev pub is_flag_name : List ℕ → Bool
is_flag_name [] = false
is_flag_name (b ∷ bs) = not (b == 45) && is_component_name (b ∷ bs)

-- a name in lower case
abbrev pub is_lower : List ℕ → Bool
is_lower name = same_text (map to_ascii_lowercase name) name
