-- The kept lines of a text: those that aren't blank and aren't comments.
use Rattle.std.specs.Prelude.{ℕ, ◌+◌, Bool, ◌&&◌, not, List, [], ◌∷◌, ◌++◌, ◌==◌, if◌then◌else◌, length, drop, reverse, slice_index, nat_eq}
use Rattle.std.specs.List.{prefix_len, starts_with}
use Rattle.std.specs.Str.Lines.{lines}
use Rattle.plan_types.specs.Bytes.{is_blank}

-- A kept line. Lines are numbered from 1. The indent is the number of leading blanks, each one column. The text has no
-- blanks at its ends.
pub record Line : Type 0 where
  pub number : ℕ
  pub indent : ℕ
  pub text : List ℕ

-- the number of leading blanks
unfoldable pub indent : List ℕ → ℕ
indent text = prefix_len is_blank text

-- without leading blanks
unfoldable pub trim_start : List ℕ → List ℕ
trim_start text = drop (indent text) text

-- without trailing blanks
unfoldable pub trim_end : List ℕ → List ℕ
trim_end text = reverse (trim_start (reverse text))

-- without blanks at both ends
unfoldable pub trim : List ℕ → List ℕ
trim text = trim_end (trim_start text)

-- whether a line is a comment: it begins with `--`
unfoldable pub is_comment : List ℕ → Bool
is_comment text = slice_index text 0 == 45 && slice_index text 1 == 45

-- whether a line is neither empty nor a comment
unfoldable pub is_kept : List ℕ → Bool
is_kept text = not (length text == 0) && not (is_comment text)

-- a raw line, if it is kept
unfoldable pub kept_line : ℕ → List ℕ → List Line
kept_line number raw =
    if is_kept (trim raw) then record { number = number; indent = indent raw; text = trim raw } ∷ [] else []

-- the kept lines, numbered from here
abbrev pub kept_from : ℕ → List (List ℕ) → List Line
kept_from number [] = []
kept_from number (raw ∷ raws) = kept_line number raw ++ kept_from (number + 1) raws

-- the byte-order mark
abbrev pub mark : List ℕ
mark = 239 ∷ 187 ∷ 191 ∷ []

-- without a leading byte-order mark
unfoldable pub without_mark : List ℕ → List ℕ
without_mark bytes = if starts_with nat_eq bytes mark then drop 3 bytes else bytes

-- the kept lines of a text, which is cut at line feeds, each without one carriage return before it
abbrev pub kept_lines : List ℕ → List Line
kept_lines bytes = kept_from 1 (lines (without_mark bytes))
