-- The openings of elements: the texts of their first lines.
use Rattle.std.specs.Prelude.{ℕ, ◌-◌, Bool, ◌&&◌, ◌||◌, List, ◌==◌, if◌then◌else◌, length, map, take, drop, slice_index, nat_le}
use Rattle.std.specs.declared.result.Result.{Result}
use Rattle.std.specs.declared.result.Result.TheVariants.{Ok, Err}
use Rattle.std.specs.List.{prefix_len, list_any}
use Rattle.std.specs.Char.{to_ascii_lowercase}
use Rattle.plan_types.specs.declared.refusal.Cause.{Cause}
use Rattle.plan_types.specs.declared.refusal.Cause.TheVariants.{StrayBrace, BadName, TooDeep}
use Rattle.plan_types.specs.Name.{is_letter, is_letter_or_digit}
use Rattle.plan_types.specs.Bytes.{begins_with}
use Rattle.cabal_lexer.specs.declared.opening.Opening.{Opening as Begun}
use Rattle.cabal_lexer.specs.declared.opening.Opening.TheVariants as begun
use Rattle.cabal_lexer.specs.Lines.{trim, trim_start, trim_end}

-- the kind and parts of an element's first line
pub data Opening : Type 0 where
  -- `name: first`, where the first value may be empty
  field : List ℕ → List ℕ → Opening
  -- `name: {`
  braced_field : List ℕ → Opening
  -- `name args`
  section : List ℕ → List ℕ → Opening
  -- `name args {`
  braced_section : List ℕ → List ℕ → Opening

-- an ASCII letter, a digit, `-`, `_` or `.`
abbrev pub is_name_byte : ℕ → Bool
is_name_byte b = is_letter_or_digit b || b == 45 || b == 95 || b == 46

-- the length of the name at the start of a text
unfoldable pub name_len : List ℕ → ℕ
name_len text = prefix_len is_name_byte text

-- a name in lower case
unfoldable pub lower_case : List ℕ → List ℕ
lower_case name = map to_ascii_lowercase name

-- whether a text is this one byte
unfoldable pub is_lone : ℕ → List ℕ → Bool
is_lone b text = length text == 1 && slice_index text 0 == b

-- whether a text ends with `{`
unfoldable pub ends_with_brace : List ℕ → Bool
ends_with_brace text = slice_index text (length text - 1) == 123

-- the opening of a field; `{` alone after the colon begins values in braces
unfoldable pub field_opening : List ℕ → List ℕ → Opening
field_opening name value = if is_lone 123 value then braced_field name else field name value

-- the args without the brace at their end
unfoldable pub before_brace : List ℕ → List ℕ
before_brace args = trim_end (take (length args - 1) args)

-- the opening of a line without a colon
unfoldable pub section_opening : List ℕ → List ℕ → Result Opening Cause
section_opening name args =
    if ends_with_brace args then (if ends_with_brace (before_brace args) then Err StrayBrace else Ok (braced_section name (before_brace args)))
    else Ok (section name args)

-- the opening of a name and the rest of its line
unfoldable pub named_opening : List ℕ → List ℕ → Result Opening Cause
named_opening name rest =
    if begins_with 58 rest then Ok (field_opening name (trim (drop 1 rest))) else section_opening name (trim rest)

-- the opening of a line; `StrayBrace` comes before `BadName`
unfoldable pub opening : List ℕ → Result Opening Cause
opening text =
    if begins_with 125 text then Err StrayBrace
    else (if list_any is_letter (take (name_len text) text) then named_opening (lower_case (take (name_len text) text)) (trim_start (drop (name_len text) text))
    else Err BadName)

-- an opening at a depth, which is 1 at the top
abbrev pub within : ℕ → Result Opening Cause → Result Opening Cause
within depth (Ok opening) = if nat_le depth 64 then Ok opening else Err TooDeep
within depth (Err cause) = Err cause

-- the cause for a line that begins no element: its own fault, else that it is too deep
abbrev pub cause_of : Result Opening Cause → Cause
cause_of (Ok opening) = TooDeep
cause_of (Err cause) = cause

-- the opening as the code has it, with the name in lower case
abbrev pub shown : Begun → Opening
shown (begun.Field name first) = field (lower_case name.now) first.now
shown (begun.BracedField name) = braced_field (lower_case name.now)
shown (begun.Section name args) = section (lower_case name.now) args.now
shown (begun.BracedSection name args) = braced_section (lower_case name.now) args.now

-- the code's opening or fault
abbrev pub seen : Result Begun Cause → Result Opening Cause
seen (Ok begun) = Ok (shown begun)
seen (Err cause) = Err cause
