-- A text for each of some names, in the order of insertion.
use Rattle.std.specs.Prelude.{ℕ, Bool, if◌then◌else◌, List, [], ◌∷◌, ◌++◌, fold, Option, is_some}
use Rattle.std.specs.Map.{lookup}
use Rattle.plan_types.specs.Bytes.{same_text}

-- a name and its text
abbrev pub Entry : Type 0
Entry = List ℕ × List ℕ

-- the text of a name
abbrev pub text_for : List Entry → List ℕ → Option (List ℕ)
text_for names name = lookup (same_text name) names

abbrev pub is_named : List Entry → List ℕ → Bool
is_named names name = is_some (text_for names name)

-- the map with one more name, if it is new
abbrev pub with_first : List Entry → Entry → List Entry
with_first names entry = if is_named names entry.0 then names else names ++ entry ∷ []

-- the map of these entries: of those with the same name, the first
abbrev pub firsts : List Entry → List Entry
firsts entries = fold with_first [] entries
