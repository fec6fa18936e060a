-- The words of a text, and readers of one word: a boolean, a package's name.
use Rattle.std.specs.Prelude.{ℕ, Bool, true, false, ◌||◌, ◌==◌, if◌then◌else◌, List, [], ◌∷◌, map, codes, filter, Option, Some, None}
use Rattle.std.specs.Char.{to_ascii_lowercase}
use Rattle.std.specs.List.{slice_split}
use Rattle.plan_types.specs.Bytes.{is_blank, same_text}
use Rattle.plan_types.specs.Name.{is_package_name}
use Rattle.text_grammar.specs.declared.word.Between.{Between}
use Rattle.text_grammar.specs.declared.word.Between.TheVariants.{Spaces, SpacesAndCommas, BlanksAndCommas}

-- whether a byte is a separator; where only spaces separate, a tab is part of a word
abbrev pub is_between : Between → ℕ → Bool
is_between Spaces b = b == 32
is_between SpacesAndCommas b = b == 32 || b == 44
is_between BlanksAndCommas b = is_blank b || b == 44

-- whether a text isn't empty
abbrev pub is_filled : List ℕ → Bool
is_filled [] = false
is_filled (b ∷ bs) = true

-- the non-empty pieces between separators
abbrev pub words : Between → List ℕ → List (List ℕ)
words between text = filter is_filled (slice_split (is_between between) text)

-- whether a text is this word, in any case
abbrev pub is_word : List ℕ → List ℕ → Bool
is_word text word = same_text (map to_ascii_lowercase text) word

-- the text, if it is a package's name
abbrev pub package_name : List ℕ → Option (List ℕ)
package_name text = if is_package_name text then Some text else None

-- the boolean of `true` or `false`, in any case
abbrev pub boolean : List ℕ → Option Bool
boolean text = if is_word text (codes "true") then Some true else if is_word text (codes "false") then Some false else None
