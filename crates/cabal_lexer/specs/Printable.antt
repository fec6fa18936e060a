-- Trees that a canonical text expresses.
use Rattle.std.specs.Prelude.{ℕ, ◌≡◌, ◌+◌, ◌<◌, true, false, not, List, [], ◌∷◌, ◌==◌, length, reverse, nat_le}
use Rattle.std.specs.List.{list_all, list_any, All}
use Rattle.std.specs.Str.{IsUtf8}
use Rattle.plan_types.specs.declared.element.Element.{Element}
use Rattle.plan_types.specs.declared.element.Element.TheVariants.{Field, Section}
use Rattle.plan_types.specs.Name.{is_letter}
use Rattle.plan_types.specs.Bytes.{begins_with}
use Rattle.cabal_lexer.specs.Lines.{indent, is_comment}
use Rattle.cabal_lexer.specs.Opening.{is_name_byte, lower_case, ends_with_brace}
use Rattle.cabal_lexer.specs.RoundTrip.{ends_with_return}

-- a text without a line feed
abbrev pub OneLine : List ℕ → Type 0
OneLine text = All (λ b. (b == 10) ≡ false) text

-- a text of one line, without blanks at its ends
pub record Piece (text : List ℕ) : Type 0 where
  pub front : indent text ≡ 0
  pub back : indent (reverse text) ≡ 0
  pub one_line : OneLine text
  pub utf8 : IsUtf8 text

-- the name of an element, in lower case
pub record IsName (name : List ℕ) : Type 0 where
  pub bytes : list_all is_name_byte name ≡ true
  pub letter : list_any is_letter name ≡ true
  pub lower : lower_case name ≡ name
  pub code : is_comment name ≡ false

-- the text of a kept line
pub record IsKeptText (text : List ℕ) : Type 0 where
  pub piece : Piece text
  pub some : 0 < length text
  pub code : is_comment text ≡ false

-- the values of a field after the first one, each on a line of its own
abbrev pub Further : List (List ℕ) → Type 0
Further [] = Unit {0}
Further (value ∷ values) = IsKeptText value × Further values

-- the values of a field; the first one follows the colon
abbrev pub Values : List (List ℕ) → Type 0
Values [] = Unit {0}
Values (value ∷ values) = Piece value × (0 < length value) × Further values

-- no value ends with a carriage return
abbrev pub WithoutReturns : List (List ℕ) → Type 0
WithoutReturns values = list_all (λ value. not (ends_with_return value)) values ≡ true

-- the args of a section, which don't end with a carriage return
pub record AreArgs (args : List ℕ) : Type 0 where
  pub piece : Piece args
  pub no_colon : begins_with 58 args ≡ false
  pub no_brace : ends_with_brace args ≡ false
  pub return : ends_with_return args ≡ false

-- The canonical text expresses the items, which are at this depth: at most 64 deep, each with a name, values and args
-- that lines can hold.
pub data Printable : ℕ → List Element → Type 0 where
  nothing : {depth : ℕ} → Printable depth []
  field : {depth : ℕ} {name : List ℕ} {values : List (List ℕ)} {items : List Element} (line : ℕ) → nat_le depth 64 ≡ true → IsName name →
      Values values → WithoutReturns values → Printable depth items → Printable depth (Field line name values ∷ items)
  section : {depth : ℕ} {name args : List ℕ} {inside items : List Element} (line : ℕ) → nat_le depth 64 ≡ true → IsName name →
      AreArgs args → Printable (depth + 1) inside → Printable depth items → Printable depth (Section line name args inside ∷ items)
