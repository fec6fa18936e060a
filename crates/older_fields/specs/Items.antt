-- Elements of a file, one by one.
use Rattle.std.specs.Prelude.{ℕ, Bool, true, false, List, [], reverse, find, Option}
use Rattle.std.specs.List.{prefix_len}
use Rattle.plan_types.specs.Bytes.{joined_text, same_text}
use Rattle.plan_types.specs.declared.element.Element.{Element, Element-F, fold-Element}
use Rattle.plan_types.specs.declared.element.Element.TheOpen.{Field, Section}

abbrev pub field_layer : Element-F Bool → Bool
field_layer (Field line name values) = true
field_layer (Section line name args items) = false

abbrev pub is_field : Element → Bool
is_field = fold-Element Bool field_layer

abbrev pub named_layer : List ℕ → Element-F Bool → Bool
named_layer wanted (Field line name values) = same_text name wanted
named_layer wanted (Section line name args items) = false

-- a field with this name
abbrev pub is_field_named : List ℕ → Element → Bool
is_field_named wanted = fold-Element Bool (named_layer wanted)

abbrev pub line_layer : Element-F ℕ → ℕ
line_layer (Field line name values) = line
line_layer (Section line name args items) = line

abbrev pub line_of : Element → ℕ
line_of = fold-Element ℕ line_layer

abbrev pub text_layer : Element-F (List ℕ) → List ℕ
text_layer (Field line name values) = joined_text values
text_layer (Section line name args items) = []

-- the text of a field
abbrev pub text_of : Element → List ℕ
text_of = fold-Element (List ℕ) text_layer

-- the number of fields before the first section: only these are the package's own
abbrev pub leading : List Element → ℕ
leading = prefix_len is_field

-- the last field with this name, which is the one that counts
abbrev pub last_named : List ℕ → List Element → Option Element
last_named name items = find (is_field_named name) (reverse items)
