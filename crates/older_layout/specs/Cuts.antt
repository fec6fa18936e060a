-- The pieces of a line: a line is cut at its braces.
use Rattle.std.specs.Prelude.{ℕ, ◌+◌, Bool, true, false, ◌&&◌, ◌||◌, not, List, [], ◌∷◌, ◌==◌, if◌then◌else◌, length, take, drop, nat_lt}
use Rattle.std.specs.List.{prefix_len}
use Rattle.plan_types.specs.Bytes.{is_blank, begins_with}
use Rattle.cabal_lexer.specs.Lines.{trim, trim_start, trim_end, is_comment}
use Rattle.cabal_lexer.specs.Opening.{name_len}
use Rattle.older_layout.specs.declared.cut.Kind.{Kind}
use Rattle.older_layout.specs.declared.cut.Kind.TheVariants.{Closes, OpensValues, OpensItems, Awaits, Plain}

-- ---- fields

-- what follows the name at the start of a text
unfoldable pub after_name : List ℕ → List ℕ
after_name text = trim_start (drop (name_len text) text)

-- whether a text is a name and a colon
unfoldable pub is_field : List ℕ → Bool
is_field text = begins_with 58 (after_name text)

-- what follows the colon of a field
unfoldable pub value : List ℕ → List ℕ
value text = trim (drop 1 (after_name text))

-- whether a text is a field with a value
unfoldable pub has_value : List ℕ → Bool
has_value text = is_field text && not (length (value text) == 0)

-- ---- the first piece

-- the length of the text before its first brace
unfoldable pub brace_len : List ℕ → ℕ
brace_len text = prefix_len (λ b. not (b == 123) && not (b == 125)) text

-- the length of the text before its first `}`
unfoldable pub close_len : List ℕ → ℕ
close_len text = prefix_len (λ b. not (b == 125)) text

-- whether a byte ends a word of a section's args: a blank, a parenthesis or a bracket
abbrev pub ends_word : ℕ → Bool
ends_word b = is_blank b || b == 40 || b == 41 || b == 91 || b == 93

-- the length of the text up to the end of a word that `--` follows, inclusive
abbrev pub code_len : List ℕ → ℕ
code_len [] = 0
code_len (b ∷ text) = if ends_word b && is_comment text then 1 else 1 + code_len text

-- A field takes the brace after it, unless it has a value.
unfoldable pub field_cut : List ℕ → Bool → Kind × ℕ
field_cut head opens = if opens && not (has_value head) then (OpensValues, length head + 1) else (Plain, length head)

-- A section takes the brace after it, unless a comment is in between.
unfoldable pub section_cut : List ℕ → Bool → Kind × ℕ
section_cut head opens =
    if nat_lt (code_len head) (length head) then (Plain, code_len head)
    else (if opens then (OpensItems, length head + 1) else (Plain, length head))

-- among items: a `}`, or the text up to the next brace
unfoldable pub item_cut : List ℕ → Kind × ℕ
item_cut text =
    if begins_with 125 text then (Closes, 1)
    else (if is_field (take (brace_len text) text) then field_cut (take (brace_len text) text) (begins_with 123 (drop (brace_len text) text))
    else section_cut (take (brace_len text) text) (begins_with 123 (drop (brace_len text) text)))

-- among the values of a field in braces: a `}`, or the text up to the next one
unfoldable pub value_cut : List ℕ → Kind × ℕ
value_cut text = if begins_with 125 text then (Closes, 1) else (Plain, close_len text)

-- the kind and the length of the first piece
abbrev pub cut : Bool → List ℕ → Kind × ℕ
cut in_values text = if in_values then value_cut text else item_cut text

-- the text without leading blanks, and nothing of a comment
unfoldable pub uncommented : List ℕ → List ℕ
uncommented text = if is_comment (trim_start text) then [] else trim_start text

-- A piece and the text after it. The brace of a raised piece is on the next line.
pub record Piece : Type 0 where
  pub kind : Kind
  pub text : List ℕ
  pub raised : Bool
  pub rest : List ℕ

-- the kind of a last piece: a field or a section whose brace begins the next line, or a field whose value does
abbrev pub last_kind : Bool → Bool → Kind
last_kind true true = OpensValues
last_kind false true = OpensItems
last_kind true false = Awaits
last_kind false false = Plain

-- the last piece of a line: a field without a value, or the head of a section
unfoldable pub last_piece : Bool → List ℕ → Piece
last_piece opens text = record { kind = last_kind (is_field text) opens; text = text; raised = opens; rest = [] }

-- whether a piece is other text
abbrev pub is_plain : Kind → Bool
is_plain Closes = false
is_plain OpensValues = false
is_plain OpensItems = false
is_plain Awaits = false
is_plain Plain = true

-- The first piece of a text. The last piece of a line takes the brace that begins the next line.
unfoldable pub first_piece : Bool → Bool → List ℕ → Piece
first_piece in_values opens text =
    let c = cut in_values text in
    let rest = uncommented (drop c.1 text) in
    if not in_values && is_plain c.0 && (length rest == 0) && not (has_value (trim_end (take c.1 text))) then last_piece opens (trim_end (take c.1 text))
    else record { kind = c.0; text = trim_end (take c.1 text); raised = false; rest = rest }
