-- The state between two pieces.
use Rattle.std.specs.Prelude.{ℕ, ◌+◌, ◌-◌, ◌^◌, Bool, true, false, ◌&&◌, not, List, ◌==◌, length, min, nat_lt}
use Rattle.plan_types.specs.Bytes.{begins_with}
use Rattle.cabal_lexer.specs.Lines.{Line}
use Rattle.cabal_lexer.specs.Layout.{closes}
use Rattle.older_layout.specs.declared.cut.Kind.{Kind}
use Rattle.older_layout.specs.declared.cut.Kind.TheVariants.{Closes, OpensValues, OpensItems, Awaits, Plain}
use Rattle.older_layout.specs.declared.state.Mode.{Mode}
use Rattle.older_layout.specs.declared.state.Mode.TheVariants.{Items, Layout, Values, Value}
use Rattle.older_layout.specs.declared.state.State.{State}
use Rattle.older_layout.specs.Cuts.{Piece, is_field, value}

-- at the start of a file: no brace is open
abbrev pub start : State
start = record { braces = 0; mode = Items; raised = false }

abbrev is_values : Mode → Bool
is_values Items = false
is_values (Layout indent) = false
is_values Values = true
is_values Value = true

-- whether the next piece is the value of the last one
abbrev pub awaits : Mode → Bool
awaits Items = false
awaits (Layout indent) = false
awaits Values = false
awaits Value = true

-- whether the next piece is a value: between the braces of a field, or of the last piece
unfoldable pub in_values : State → Bool
in_values state = is_values state.mode

abbrev deeper : Mode → Line → Bool
deeper Items line = false
deeper (Layout indent) line = nat_lt indent line.indent
deeper Values line = false
deeper Value line = false

-- whether a line is a further value of a field in layout: it is deeper, and no `}` that closes a brace
unfoldable pub goes_on : State → Line → Bool
goes_on state line = deeper state.mode line && not (nat_lt 0 state.braces && closes line)

-- whether a text is a field whose values aren't in braces
unfoldable pub layout_field : List ℕ → Bool → Bool
layout_field text opens = is_field text && not (begins_with 123 (value text)) && not (opens && (length (value text) == 0))

-- in a field in layout
abbrev pub in_layout : State → ℕ → State
in_layout state indent = record { braces = state.braces; mode = Layout indent; raised = false }

abbrev pub begun_mode : Mode → Mode
begun_mode Items = Items
begun_mode (Layout indent) = Items
begun_mode Values = Values
begun_mode Value = Value

-- at the first piece of a line
unfoldable pub begun : State → State
begun state = record { braces = state.braces; mode = begun_mode state.mode; raised = false }

-- the number of open braces after a piece, up to a limit
abbrev pub opened : Kind → ℕ → ℕ
opened Closes braces = braces - 1
opened OpensValues braces = min (braces + 1) (2 ^ 32 - 1)
opened OpensItems braces = min (braces + 1) (2 ^ 32 - 1)
opened Awaits braces = braces
opened Plain braces = braces

abbrev pub mode_after_text : Mode → Mode
mode_after_text Items = Items
mode_after_text (Layout indent) = Layout indent
mode_after_text Values = Values
mode_after_text Value = Items

abbrev pub mode_after : Kind → Mode → Mode
mode_after Closes mode = Items
mode_after OpensValues mode = Values
mode_after OpensItems mode = Items
mode_after Awaits mode = Value
mode_after Plain mode = mode_after_text mode

-- after a `}` at the start of a line
abbrev pub closed : State → State
closed state = record { braces = opened Closes state.braces; mode = Items; raised = false }

-- the state after a piece
unfoldable pub after : Piece → State → State
after piece state = record { braces = opened piece.kind state.braces; mode = mode_after piece.kind state.mode; raised = piece.raised }
