-- The canonical text of a tree.
use Rattle.std.specs.Prelude.{ℕ, List, [], ◌∷◌, ◌++◌, flat_map, if◌then◌else◌}
use Rattle.plan_types.specs.declared.element.Element.{Element, Element-F, fold-Element}
use Rattle.plan_types.specs.declared.element.Element.TheOpen.{Field, Section}
use Rattle.cabal_lexer.specs.Opening.{is_lone}

-- each value on a line of its own, 4 spaces deeper than its field
unfoldable pub value_lines : List ℕ → List (List ℕ) → List ℕ
value_lines indent values = flat_map (λ value. indent ++ (32 ∷ 32 ∷ 32 ∷ 32 ∷ []) ++ value ++ 10 ∷ []) values

-- a field; the first value follows the colon, unless it is `{`
unfoldable pub field_text : List ℕ → List ℕ → List (List ℕ) → List ℕ
field_text indent name [] = indent ++ name ++ 58 ∷ 10 ∷ []
field_text indent name (first ∷ values) =
    if is_lone 123 first then indent ++ name ++ (58 ∷ 10 ∷ []) ++ value_lines indent (first ∷ values)
    else indent ++ name ++ (58 ∷ 32 ∷ []) ++ first ++ (10 ∷ []) ++ value_lines indent values

-- the line of a section; args follow a space
unfoldable pub section_line : List ℕ → List ℕ → List ℕ → List ℕ
section_line indent name [] = indent ++ name ++ 10 ∷ []
section_line indent name (b ∷ args) = indent ++ name ++ (32 ∷ []) ++ (b ∷ args) ++ 10 ∷ []

-- one layer of an element at an indent; its items are 2 spaces deeper
abbrev pub layer : Element-F (List ℕ → List ℕ) → List ℕ → List ℕ
layer (Field line name values) indent = field_text indent name values
layer (Section line name args items) indent =
    section_line indent name args ++ flat_map (λ item. item (indent ++ 32 ∷ 32 ∷ [])) items

-- the text of an element at an indent
abbrev pub element_text : Element → List ℕ → List ℕ
element_text element = fold-Element (List ℕ → List ℕ) layer element

-- the text of elements at an indent
abbrev pub items_text : List Element → List ℕ → List ℕ
items_text items indent = flat_map (λ item. element_text item indent) items

-- the canonical text of a tree
abbrev pub canonical : List Element → List ℕ
canonical items = items_text items []
