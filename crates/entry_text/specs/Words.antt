-- Parts of an entry.
use Rattle.std.specs.Prelude.{ℕ, Bool, not, ◌||◌, ◌==◌, List, length, take, drop, filter}
use Rattle.std.specs.List.{prefix_len, slice_split}
use Rattle.plan_types.specs.Bytes.{is_blank}
use Rattle.plan_types.specs.Name.{is_letter_or_digit}

-- the longest prefix of bytes that pass
abbrev pub run : (ℕ → Bool) → List ℕ → List ℕ
run of text = take (prefix_len of text) text

-- the rest after that prefix
abbrev pub behind : (ℕ → Bool) → List ℕ → List ℕ
behind of text = drop (prefix_len of text) text

-- a letter, a digit or a `-`
abbrev pub is_name_byte : ℕ → Bool
is_name_byte b = is_letter_or_digit b || b == 45

-- the name after leading blanks
abbrev pub name_of : List ℕ → List ℕ
name_of text = run is_name_byte (behind is_blank text)

-- the rest after that name
abbrev pub behind_name : List ℕ → List ℕ
behind_name text = behind is_name_byte (behind is_blank text)

-- a byte that doesn't close a brace
abbrev pub is_in_braces : ℕ → Bool
is_in_braces b = not (b == 125)

-- whether a part isn't empty
abbrev pub is_word : List ℕ → Bool
is_word part = not (length part == 0)

-- the words between blanks
abbrev pub words : List ℕ → List (List ℕ)
words text = filter is_word (slice_split is_blank text)
