-- The lines of a file, laid out again: each piece between braces on a line of its own.
use Rattle.std.specs.Prelude.{ℕ, zero, suc, ◌+◌, Bool, false, ◌&&◌, ◌||◌, not, List, [], ◌∷◌, ◌++◌, if◌then◌else◌, length, drop, min}
use Rattle.plan_types.specs.Bytes.{begins_with}
use Rattle.cabal_lexer.specs.Lines.{Line, indent}
use Rattle.older_layout.specs.declared.state.State.{State}
use Rattle.older_layout.specs.Cuts.{Piece, uncommented, first_piece}
use Rattle.older_layout.specs.States.{start, in_values, awaits, goes_on, layout_field, in_layout, begun, closed, after}

-- whether the next line begins with `{`
abbrev pub opens : List Line → Bool
opens [] = false
opens (line ∷ lines) = begins_with 123 line.text

-- the indent of a piece that doesn't begin its line: deeper than each line of a file
abbrev pub inline : ℕ
inline = 1048576

-- ---- pieces

-- the text of a piece; a brace on the next line is raised to its end
abbrev pub piece_text : Piece → List ℕ
piece_text piece = if piece.raised then piece.text ++ 32 ∷ 123 ∷ [] else piece.text

-- the line of a piece
abbrev pub piece_line : ℕ → ℕ → Piece → Line
piece_line number indent piece = record { number = number; indent = indent; text = piece_text piece }

abbrev pub in_front : {A : Type 0} → Line → List Line × A → List Line × A
in_front line found = (line ∷ found.0, found.1)

-- the lines of at most so many pieces of a text, and the state after them
abbrev pub cut_up : ℕ → Bool → ℕ → ℕ → State → List ℕ → List Line × State
cut_up zero opens number indent state text = ([], state)
cut_up (suc n) opens number indent state [] = ([], state)
cut_up (suc n) opens number indent state (b ∷ text) =
    let piece = first_piece (in_values state) opens (b ∷ text) in
    in_front (piece_line number indent piece) (cut_up n opens number inline (after piece state) piece.rest)

-- the indent of the first piece of a line; the value of the last piece is deeper than that piece
abbrev pub first_indent : State → Line → ℕ
first_indent state line = if awaits state.mode then inline + 1 else line.indent

-- the pieces of a line
abbrev pub pieces : Bool → State → Line → List Line × State
pieces opens state line = cut_up (length line.text) opens line.number (first_indent state line) state line.text

-- ---- braces at the start of a line

abbrev pub begins_with_brace : List ℕ → Bool
begins_with_brace text = begins_with 123 text || begins_with 125 text

-- What follows a brace at the start of a line is a line of its own; its indent is the number of blanks in between.
unfoldable pub behind : Line → Line
behind line =
    if begins_with_brace line.text
    then record { number = line.number; indent = min (indent (drop 1 line.text)) inline; text = uncommented (drop 1 line.text) }
    else line

-- the line of a `}`
abbrev pub close_of : Line → Line
close_of line = record { number = line.number; indent = line.indent; text = 125 ∷ [] }

-- at most so many `}` at the start of a line, the state after them, and the line behind them
abbrev pub closers : ℕ → State → Line → List Line × (State × Line)
closers zero state line = ([], (state, line))
closers (suc n) state line = if begins_with 125 line.text then in_front (close_of line) (closers n (closed state) (behind line)) else ([], (state, line))

-- ---- lines

-- a line that doesn't begin with a `}`; a field in layout isn't cut
unfoldable pub item_line : Bool → State → Line → List Line × State
item_line opens state line =
    if not (in_values state) && layout_field line.text opens then (line ∷ [], in_layout state line.indent) else pieces opens state line

abbrev after_closers : Bool → List Line × (State × Line) → List Line × State
after_closers opens found = (found.0 ++ (item_line opens found.1.0 found.1.1).0, (item_line opens found.1.0 found.1.1).1)

abbrev pub whole_line : Bool → State → Line → List Line × State
whole_line opens state line = after_closers opens (closers (length line.text) state line)

-- a line whose first brace is the end of the last piece
unfoldable pub raised_line : Bool → State → Line → List Line × State
raised_line opens state line = if in_values state then pieces opens state line else whole_line opens state line

-- a line; the further values of a field in layout aren't cut
unfoldable pub laid : Bool → State → Line → List Line × State
laid opens state line =
    if goes_on state line then (line ∷ [], state)
    else (if state.raised then raised_line opens (begun state) (behind line) else whole_line opens (begun state) line)

-- the lines from a state on
abbrev pub relaid_from : State → List Line → List Line
relaid_from state [] = []
relaid_from state (line ∷ lines) = (laid (opens lines) state line).0 ++ relaid_from (laid (opens lines) state line).1 lines

abbrev pub relaid : List Line → List Line
relaid lines = relaid_from start lines
