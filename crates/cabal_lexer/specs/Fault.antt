-- The tree of a text, and its first fault.
use Rattle.std.specs.Prelude.{ℕ, ◌≡◌, ◌+◌, true, false, ◌⊎◌, List, [], ◌∷◌, ◌++◌, take, ◌==◌, count_by}
use Rattle.std.specs.Str.{IsUtf8}
use Rattle.std.specs.Str.Lossy.{utf8_valid_len}
use Rattle.std.specs.List.{list_all}
use Rattle.plan_types.specs.declared.element.Element.{Element}
use Rattle.plan_types.specs.declared.refusal.Cause.{Cause}
use Rattle.plan_types.specs.declared.refusal.Cause.TheVariants.{NotUtf8, UnclosedBrace}
use Rattle.cabal_lexer.specs.Lines.{Line, kept_lines}
use Rattle.cabal_lexer.specs.Opening.{opening, cause_of}
use Rattle.cabal_lexer.specs.Layout.{Stands, Fails, closes}

-- the lines of a whole text: bound 0, depth 1, outside braces
abbrev pub StandsFor : List Line → List Element → Type 0
StandsFor lines items = Stands 0 1 false lines items

-- Sound lines: with some lines `}` appended, they parse as items.
pub record Viable (lines : List Line) : Type 0 where
  pub closers : List Line
  pub close : list_all closes closers ≡ true
  pub items : List Element
  pub stands : StandsFor (lines ++ closers) items

-- The first fault of lines is at the last line of their shortest unsound prefix. If the lines are sound but parse as no
-- items, it is at the last brace that is still open.
pub data FirstFault : List Line → ℕ → Cause → Type 0 where
  misfit : (front : List Line) (line : Line) (rest : List Line) →
      ((shorter others : List Line) → front ≡ shorter ++ others → Viable shorter) → (Viable (front ++ line ∷ []) → ⊥) →
      FirstFault (front ++ line ∷ rest) line.number (cause_of (opening line.text))
  unclosed : (lines : List Line) (line : Line) → Viable lines → ((items : List Element) → StandsFor lines items → ⊥) →
      Fails 0 1 false lines line UnclosedBrace → FirstFault lines line.number UnclosedBrace

-- the bytes parse as this tree
abbrev pub IsTree : List ℕ → List Element → Type 0
IsTree bytes items = IsUtf8 bytes × StandsFor (kept_lines bytes) items

-- the line of the first byte that isn't UTF-8
abbrev pub bad_line : List ℕ → ℕ
bad_line bytes = count_by (λ b. b == 10) (take (utf8_valid_len bytes) bytes) + 1

-- the first fault of a file: bad UTF-8, else a fault of its layout
abbrev pub IsFault : List ℕ → ℕ → Cause → Type 0
IsFault bytes line cause =
    ((IsUtf8 bytes → ⊥) × (line ≡ bad_line bytes) × (cause ≡ NotUtf8)) ⊎ (IsUtf8 bytes × FirstFault (kept_lines bytes) line cause)
