-- The layout: which elements the lines of a text parse as.
use Rattle.std.specs.Prelude.{ℕ, ◌≡◌, ◌+◌, Bool, true, false, ◌&&◌, ◌||◌, not, List, [], ◌∷◌, ◌++◌, map, nat_lt}
use Rattle.std.specs.declared.result.Result.TheVariants.{Ok, Err}
use Rattle.std.specs.List.{list_all}
use Rattle.plan_types.specs.declared.element.Element.{Element}
use Rattle.plan_types.specs.declared.element.Element.TheVariants.{Field, Section}
use Rattle.plan_types.specs.declared.refusal.Cause.{Cause}
use Rattle.plan_types.specs.declared.refusal.Cause.TheVariants.{UnclosedBrace}
use Rattle.plan_types.specs.declared.refusal.Fault.{Fault}
use Rattle.plan_types.specs.Refusal.{RefusesAt}
use Rattle.cabal_lexer.specs.Lines.{Line}
use Rattle.cabal_lexer.specs.Opening.{Opening, field, braced_field, section, braced_section, is_lone, opening, within}

-- whether a line is `}`, at any indent
abbrev pub closes : Line → Bool
closes line = is_lone 125 line.text

-- whether a line ends a block: its indent is below the bound, or it is the `}` of a block in braces
abbrev pub ends : ℕ → Bool → Line → Bool
ends bound braced line = nat_lt line.indent bound || (braced && closes line)

-- the lines are empty, or the first of them ends the block
abbrev pub Ends : ℕ → Bool → List Line → Type 0
Ends bound braced [] = Unit {0}
Ends bound braced (line ∷ lines) = ends bound braced line ≡ true

-- no line ends the block
abbrev pub Inside : ℕ → Bool → List Line → Type 0
Inside bound braced lines = list_all (λ line. not (ends bound braced line)) lines ≡ true

-- a line has this opening at its depth
abbrev pub Begins : ℕ → Line → Opening → Type 0
Begins depth line begun = within depth (opening line.text) ≡ Ok begun

-- the texts of lines
abbrev pub texts : List Line → List (List ℕ)
texts lines = map (λ line. line.text) lines

-- the first value, unless it is empty
abbrev pub first_value : List ℕ → List (List ℕ)
first_value [] = []
first_value (b ∷ bs) = (b ∷ bs) ∷ []

mutual
  -- The lines parse as the items: both are empty, or the lines are a first line inside the bound, its
  -- block, and a rest that parses as the remaining items.
  pub data Stands : ℕ → ℕ → Bool → List Line → List Element → Type 0 where
    nothing : {bound depth : ℕ} {braced : Bool} → Stands bound depth braced [] []
    element : {bound depth : ℕ} {braced : Bool} {items : List Element} {item : Element} (line : Line) (block rest : List Line) →
        ends bound braced line ≡ false → Block depth braced line block rest item → Stands bound depth braced rest items →
        Stands bound depth braced (line ∷ block ++ rest) (item ∷ items)

  -- A first line and the block after it are one element; the rest follows.
  pub data Block : ℕ → Bool → Line → List Line → List Line → Element → Type 0 where
    -- the longest run of deeper lines
    run : {depth : ℕ} {braced : Bool} {line : Line} {name first : List ℕ} {values rest : List Line} →
        Begins depth line (field name first) → Inside (line.indent + 1) braced values → Ends (line.indent + 1) braced rest →
        Block depth braced line values rest (Field line.number name (first_value first ++ texts values))
    -- the lines up to a `}`
    braced_run : {depth : ℕ} {braced : Bool} {line : Line} {name : List ℕ} {rest : List Line} (values : List Line) (close : Line) →
        Begins depth line (braced_field name) → Inside 0 true values → closes close ≡ true →
        Block depth braced line (values ++ close ∷ []) rest (Field line.number name (texts values))
    -- deeper lines that parse as the items
    indented : {depth : ℕ} {braced : Bool} {line : Line} {name args : List ℕ} {block rest : List Line} {items : List Element} →
        Begins depth line (section name args) → Stands (line.indent + 1) (depth + 1) braced block items → Ends (line.indent + 1) braced rest →
        Block depth braced line block rest (Section line.number name args items)
    -- lines at any indent that parse as the items, and then a `}`
    enclosed : {depth : ℕ} {braced : Bool} {line : Line} {name args : List ℕ} {rest : List Line} {items : List Element} (block : List Line) (close : Line) →
        Begins depth line (braced_section name args) → Stands 0 (depth + 1) true block items → closes close ≡ true →
        Block depth braced line (block ++ close ∷ []) rest (Section line.number name args items)

-- Parsing of lines fails at a line, with a cause.
pub data Fails : ℕ → ℕ → Bool → List Line → Line → Cause → Type 0 where
  -- the first line begins no element
  misfit : {bound depth : ℕ} {braced : Bool} {cause : Cause} (line : Line) (rest : List Line) →
      ends bound braced line ≡ false → within depth (opening line.text) ≡ Err cause → Fails bound depth braced (line ∷ rest) line cause
  -- the brace of the values isn't closed
  open_run : {bound depth : ℕ} {braced : Bool} {name : List ℕ} (line : Line) (values : List Line) →
      ends bound braced line ≡ false → Begins depth line (braced_field name) → Inside 0 true values →
      Fails bound depth braced (line ∷ values) line UnclosedBrace
  -- the brace of the items isn't closed
  open_items : {bound depth : ℕ} {braced : Bool} {name args : List ℕ} {items : List Element} (line : Line) (block : List Line) →
      ends bound braced line ≡ false → Begins depth line (braced_section name args) → Stands 0 (depth + 1) true block items →
      Fails bound depth braced (line ∷ block) line UnclosedBrace
  -- a line inside a section without a brace fails
  in_indented : {bound depth : ℕ} {braced : Bool} {name args : List ℕ} {at : Line} {cause : Cause} (line : Line) (lines : List Line) →
      ends bound braced line ≡ false → Begins depth line (section name args) → Fails (line.indent + 1) (depth + 1) braced lines at cause →
      Fails bound depth braced (line ∷ lines) at cause
  -- a line inside a section with a brace fails
  in_enclosed : {bound depth : ℕ} {braced : Bool} {name args : List ℕ} {at : Line} {cause : Cause} (line : Line) (lines : List Line) →
      ends bound braced line ≡ false → Begins depth line (braced_section name args) → Fails 0 (depth + 1) true lines at cause →
      Fails bound depth braced (line ∷ lines) at cause
  -- a line after an element fails
  later : {bound depth : ℕ} {braced : Bool} {item : Element} {at : Line} {cause : Cause} (line : Line) (block rest : List Line) →
      ends bound braced line ≡ false → Block depth braced line block rest item → Fails bound depth braced rest at cause →
      Fails bound depth braced (line ∷ block ++ rest) at cause

-- The lines parse as these items up to this rest, which begins outside the block.
pub record Cut (bound depth : ℕ) (braced : Bool) (lines : List Line) (items : List Element) (rest : List Line) : Type 0 where
  pub front : List Line
  pub whole : lines ≡ front ++ rest
  pub stands : Stands bound depth braced front items
  pub ended : Ends bound braced rest

-- The line and the lines after it are this element, up to this rest.
pub record IsElement (depth : ℕ) (braced : Bool) (line : Line) (lines : List Line) (item : Element) (rest : List Line) : Type 0 where
  pub block : List Line
  pub whole : lines ≡ block ++ rest
  pub is : Block depth braced line block rest item

-- a fault at a line with this property, or out of memory
abbrev pub At : (Line → Cause → Type 0) → Fault → Type 0
At P = RefusesAt (λ number cause. (line : Line) × (number ≡ line.number) × P line cause)
