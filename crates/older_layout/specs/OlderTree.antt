-- The tree of a file in the older layout, and its first fault.
use Rattle.std.specs.Prelude.{ℕ, List, ◌==◌, map, if◌then◌else◌}
use Rattle.std.specs.Str.{is_utf8, chars, encode_utf8_all}
use Rattle.plan_types.specs.declared.element.Element.{Element}
use Rattle.plan_types.specs.declared.refusal.Cause.{Cause}
use Rattle.cabal_lexer.specs.Lines.{Line, kept_lines}
use Rattle.cabal_lexer.specs.Fault.{StandsFor, FirstFault}
use Rattle.older_layout.specs.Relaid.{relaid}

-- the characters of a file; if it isn't UTF-8, each byte is one
unfoldable pub characters : List ℕ → List ℕ
characters bytes = if is_utf8 bytes then chars bytes else bytes

-- a character; U+00A0 is read as a space
abbrev pub plain : ℕ → ℕ
plain c = if c == 160 then 32 else c

-- the text of characters
abbrev pub plain_text : List ℕ → List ℕ
plain_text characters = encode_utf8_all (map plain characters)

-- the text of a file
abbrev pub decoded : List ℕ → List ℕ
decoded bytes = plain_text (characters bytes)

-- the kept lines of a text, laid out again
abbrev pub older_lines : List ℕ → List Line
older_lines text = relaid (kept_lines text)

-- the file parses as this tree
abbrev pub IsOlderTree : List ℕ → List Element → Type 0
IsOlderTree bytes items = StandsFor (older_lines (decoded bytes)) items

-- the first fault of the file
abbrev pub IsOlderFault : List ℕ → ℕ → Cause → Type 0
IsOlderFault bytes line cause = FirstFault (older_lines (decoded bytes)) line cause
