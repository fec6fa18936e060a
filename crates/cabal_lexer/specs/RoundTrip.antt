-- Trees without line numbers: what a canonical text keeps of its tree.
use Rattle.std.specs.Prelude.{ℕ, ◌-◌, Bool, ◌&&◌, not, List, ◌==◌, length, map, slice_index}
use Rattle.std.specs.List.{list_all}
use Rattle.plan_types.specs.declared.element.Element.{Element, Element-F, fold-Element}
use Rattle.plan_types.specs.declared.element.Element.TheOpen.{Field, Section}
use Rattle.plan_types.specs.declared.element.Element.TheVariants as element

-- an element with 0 for each line number
abbrev pub zero_layer : Element-F Element → Element
zero_layer (Field line name values) = element.Field 0 name values
zero_layer (Section line name args items) = element.Section 0 name args items

-- elements without line numbers
abbrev pub unnumbered : List Element → List Element
unnumbered items = map (fold-Element Element zero_layer) items

-- whether a text ends with a carriage return, which would be part of the line's end
unfoldable pub ends_with_return : List ℕ → Bool
ends_with_return text = slice_index text (length text - 1) == 13

-- no value and no args of an element end with a carriage return
abbrev pub return_layer : Element-F Bool → Bool
return_layer (Field line name values) = list_all (λ value. not (ends_with_return value)) values
return_layer (Section line name args items) = not (ends_with_return args) && list_all (λ item. item) items

-- no text ends in a carriage return
abbrev pub without_returns : List Element → Bool
without_returns items = list_all (fold-Element Bool return_layer) items
