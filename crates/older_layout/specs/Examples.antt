-- Small lines, by the definitions.
use Rattle.std.specs.Prelude.{ℕ, ◌≡◌, List, [], ◌∷◌, refl}
use Rattle.cabal_lexer.specs.Lines.{Line, indent, trim, trim_start, trim_end, is_comment}
use Rattle.cabal_lexer.specs.Opening.{name_len, is_lone}
use Rattle.older_layout.specs.Cuts.{after_name, is_field, value, has_value, brace_len, close_len, code_len, field_cut, section_cut, item_cut, value_cut, uncommented, last_piece, first_piece}
use Rattle.older_layout.specs.States.{in_values, goes_on, layout_field, begun, after}
use Rattle.older_layout.specs.Relaid.{inline, behind, item_line, raised_line, laid, relaid}

abbrev at : ℕ → ℕ → List ℕ → Line
at number indent text = record { number = number; indent = indent; text = text }

-- `s {a: b} t` is the section `s` with a field, and the section `t`
one_line : relaid (at 1 2 (115 ∷ 32 ∷ 123 ∷ 97 ∷ 58 ∷ 32 ∷ 98 ∷ 125 ∷ 32 ∷ 116 ∷ []) ∷ [])
    ≡ at 1 2 (115 ∷ 32 ∷ 123 ∷ []) ∷ at 1 inline (97 ∷ 58 ∷ 32 ∷ 98 ∷ []) ∷ at 1 inline (125 ∷ []) ∷ at 1 inline (116 ∷ []) ∷ []
unfolding indent trim trim_start trim_end is_comment name_len is_lone after_name is_field value has_value brace_len close_len field_cut section_cut item_cut value_cut uncommented last_piece first_piece in_values goes_on layout_field begun after behind item_line raised_line laid
one_line = refl

-- `s`, and `{` on the next line: the brace is raised
raised_brace : relaid (at 1 0 (115 ∷ []) ∷ at 2 4 (123 ∷ []) ∷ at 3 0 (125 ∷ []) ∷ []) ≡ at 1 0 (115 ∷ 32 ∷ 123 ∷ []) ∷ at 3 0 (125 ∷ []) ∷ []
unfolding indent trim trim_start trim_end is_comment name_len is_lone after_name is_field value has_value brace_len close_len field_cut section_cut item_cut value_cut uncommented last_piece first_piece in_values goes_on layout_field begun after behind item_line raised_line laid
raised_brace = refl

-- `a:b}` and `c}`: braces in a field in layout are text
layout : relaid (at 1 0 (97 ∷ 58 ∷ 98 ∷ 125 ∷ []) ∷ at 2 1 (99 ∷ 125 ∷ []) ∷ []) ≡ at 1 0 (97 ∷ 58 ∷ 98 ∷ 125 ∷ []) ∷ at 2 1 (99 ∷ 125 ∷ []) ∷ []
unfolding indent trim trim_start trim_end is_comment name_len is_lone after_name is_field value has_value brace_len close_len field_cut section_cut item_cut value_cut uncommented last_piece first_piece in_values goes_on layout_field begun after behind item_line raised_line laid
layout = refl

-- `x --{` ends at its comment
comment : code_len (120 ∷ 32 ∷ 45 ∷ 45 ∷ 123 ∷ []) ≡ 2
unfolding is_comment
comment = refl
