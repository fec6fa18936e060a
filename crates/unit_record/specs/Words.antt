-- The words of a field.
use Rattle.std.specs.Prelude.{ℕ, Bool, false, not, List, [], ◌∷◌}
use Rattle.std.specs.List.{list_all}
use Rattle.text_grammar.specs.Words.{is_between}
use Rattle.text_grammar.specs.declared.word.Between.TheVariants.{BlanksAndCommas}

-- a space, a tab or a comma
abbrev pub is_separator : ℕ → Bool
is_separator = is_between BlanksAndCommas

-- whether a text is the id of a unit: a single word
abbrev pub is_unit_id : List ℕ → Bool
is_unit_id [] = false
is_unit_id (b ∷ bs) = list_all (λ b. not (is_separator b)) (b ∷ bs)
