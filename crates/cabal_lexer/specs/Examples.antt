-- Small texts, by the definitions.
use Rattle.std.specs.Prelude.{ℕ, ◌≡◌, true, false, List, [], ◌∷◌, refl}
use Rattle.std.specs.declared.result.Result.TheVariants.{Err}
use Rattle.plan_types.specs.declared.element.Element.TheVariants.{Field, Section}
use Rattle.plan_types.specs.declared.refusal.Cause.TheVariants.{StrayBrace, BadName, UnclosedBrace}
use Rattle.cabal_lexer.specs.Lines.{Line, kept_lines, kept_line, is_kept, is_comment, trim, trim_start, trim_end, indent, without_mark}
use Rattle.cabal_lexer.specs.Opening.{field, braced_section, opening, named_opening, field_opening, section_opening, ends_with_brace, before_brace, lower_case, name_len, is_lone}
use Rattle.cabal_lexer.specs.Layout.{Begins, nothing, element, run, enclosed, Fails, open_items}
use Rattle.cabal_lexer.specs.Fault.{StandsFor}
use Rattle.cabal_lexer.specs.Canonical.{value_lines, field_text, section_line, items_text}
use Rattle.cabal_lexer.specs.Folds.{text-field, text-section, zero-field, zero-section, return-field}
use Rattle.cabal_lexer.specs.RoundTrip.{unnumbered, ends_with_return, without_returns}

-- `Name : x`, a tab and `y`, a comment, `flag F {`, `Default: True` and `}`
abbrev text : List ℕ
text =
    78 ∷ 97 ∷ 109 ∷ 101 ∷ 32 ∷ 58 ∷ 32 ∷ 120 ∷ 10 ∷ 9 ∷ 121 ∷ 10 ∷ 45 ∷ 45 ∷ 10
    ∷ 102 ∷ 108 ∷ 97 ∷ 103 ∷ 32 ∷ 70 ∷ 32 ∷ 123 ∷ 10 ∷ 68 ∷ 101 ∷ 102 ∷ 97 ∷ 117 ∷ 108 ∷ 116 ∷ 58 ∷ 32 ∷ 84 ∷ 114 ∷ 117 ∷ 101 ∷ 10 ∷ 125 ∷ 10 ∷ []

abbrev name_line : Line
name_line = record { number = 1; indent = 0; text = 78 ∷ 97 ∷ 109 ∷ 101 ∷ 32 ∷ 58 ∷ 32 ∷ 120 ∷ [] }

abbrev value_line : Line
value_line = record { number = 2; indent = 1; text = 121 ∷ [] }

abbrev flag_line : Line
flag_line = record { number = 4; indent = 0; text = 102 ∷ 108 ∷ 97 ∷ 103 ∷ 32 ∷ 70 ∷ 32 ∷ 123 ∷ [] }

abbrev default_line : Line
default_line = record { number = 5; indent = 0; text = 68 ∷ 101 ∷ 102 ∷ 97 ∷ 117 ∷ 108 ∷ 116 ∷ 58 ∷ 32 ∷ 84 ∷ 114 ∷ 117 ∷ 101 ∷ [] }

abbrev close_line : Line
close_line = record { number = 6; indent = 0; text = 125 ∷ [] }

-- its kept lines
kept : kept_lines text ≡ name_line ∷ value_line ∷ flag_line ∷ default_line ∷ close_line ∷ []
unfolding kept_line is_kept is_comment trim trim_start trim_end indent without_mark
kept = refl

-- their openings: the field `name` with the value `x`, and the section `flag` with the args `F`, in braces
name_begins : Begins 1 name_line (field (110 ∷ 97 ∷ 109 ∷ 101 ∷ []) (120 ∷ []))
unfolding opening named_opening field_opening section_opening ends_with_brace before_brace lower_case name_len is_lone trim trim_start trim_end indent
name_begins = refl

flag_begins : Begins 1 flag_line (braced_section (102 ∷ 108 ∷ 97 ∷ 103 ∷ []) (70 ∷ []))
unfolding opening named_opening field_opening section_opening ends_with_brace before_brace lower_case name_len is_lone trim trim_start trim_end indent
flag_begins = refl

default_begins : Begins 2 default_line (field (100 ∷ 101 ∷ 102 ∷ 97 ∷ 117 ∷ 108 ∷ 116 ∷ []) (84 ∷ 114 ∷ 117 ∷ 101 ∷ []))
unfolding opening named_opening field_opening section_opening ends_with_brace before_brace lower_case name_len is_lone trim trim_start trim_end indent
default_begins = refl

-- `a {{`, `-` and `}` begin nothing
stray : opening (97 ∷ 32 ∷ 123 ∷ 123 ∷ []) ≡ Err StrayBrace
unfolding opening named_opening field_opening section_opening ends_with_brace before_brace lower_case name_len is_lone trim trim_start trim_end indent
stray = refl

nameless : opening (45 ∷ []) ≡ Err BadName
unfolding opening name_len
nameless = refl

closing : opening (125 ∷ []) ≡ Err StrayBrace
unfolding opening
closing = refl

-- the lines parse as a field with the values `x` and `y`, and a section with one field
stands : StandsFor (name_line ∷ value_line ∷ flag_line ∷ default_line ∷ close_line ∷ [])
    (Field 1 (110 ∷ 97 ∷ 109 ∷ 101 ∷ []) ((120 ∷ []) ∷ (121 ∷ []) ∷ [])
    ∷ Section 4 (102 ∷ 108 ∷ 97 ∷ 103 ∷ []) (70 ∷ []) (Field 5 (100 ∷ 101 ∷ 102 ∷ 97 ∷ 117 ∷ 108 ∷ 116 ∷ []) ((84 ∷ 114 ∷ 117 ∷ 101 ∷ []) ∷ []) ∷ []) ∷ [])
unfolding is_lone
stands =
    element name_line (value_line ∷ []) (flag_line ∷ default_line ∷ close_line ∷ []) refl (run name_begins refl refl)
    (element flag_line (default_line ∷ close_line ∷ []) [] refl
    (enclosed (default_line ∷ []) close_line flag_begins (element default_line [] [] refl (run default_begins refl tt) nothing) refl)
    nothing)

-- without the last line, the brace of the fourth is left open
left_open : Fails 0 1 false (flag_line ∷ default_line ∷ []) flag_line UnclosedBrace
unfolding is_lone
left_open = open_items flag_line (default_line ∷ []) refl flag_begins (element default_line [] [] refl (run default_begins refl tt) nothing)

-- the canonical text of a section with a field: `flag F` and `  d: T`
printed : items_text (Section 4 (102 ∷ 108 ∷ 97 ∷ 103 ∷ []) (70 ∷ []) (Field 5 (100 ∷ []) ((84 ∷ []) ∷ []) ∷ []) ∷ []) []
    ≡ 102 ∷ 108 ∷ 97 ∷ 103 ∷ 32 ∷ 70 ∷ 10 ∷ 32 ∷ 32 ∷ 100 ∷ 58 ∷ 32 ∷ 84 ∷ 10 ∷ []
unfolding value_lines field_text section_line is_lone
printed = rw text-section (rw text-field refl)

-- without the numbers of its lines
numbers : unnumbered (Section 4 (102 ∷ []) (70 ∷ []) (Field 5 (100 ∷ []) ((84 ∷ []) ∷ []) ∷ []) ∷ []) ≡ Section 0 (102 ∷ []) (70 ∷ []) (Field 0 (100 ∷ []) ((84 ∷ []) ∷ []) ∷ []) ∷ []
numbers = rw zero-section (rw zero-field refl)

-- a value that ends with a carriage return, and one that doesn't
return_at_end : without_returns (Field 1 (110 ∷ []) ((120 ∷ 13 ∷ []) ∷ []) ∷ []) ≡ false
unfolding ends_with_return
return_at_end = rw return-field refl

return_inside : without_returns (Field 1 (110 ∷ []) ((13 ∷ 120 ∷ []) ∷ []) ∷ []) ≡ true
unfolding ends_with_return
return_inside = rw return-field refl
