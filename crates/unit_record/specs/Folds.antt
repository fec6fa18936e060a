-- The fold of an element, by its kind.
use Rattle.std.specs.Prelude.{ℕ, ◌≡◌, List, [], ◌∷◌}
use Rattle.std.proofs.Common.{sym, ◌∙◌, ap}
use Rattle.plan_types.specs.Bytes.{joined_text}
use Rattle.plan_types.specs.declared.element.Element.{Element, fold-roll-Element}
use Rattle.plan_types.specs.declared.element.Element.TheOpen as open'
use Rattle.plan_types.specs.declared.element.Element.TheVariants.{Field, Section, rolls-Field, rolls-Section}
use Rattle.unit_record.specs.Fields.{TopField, fields_of, top_layer}

-- a field outside sections is one field
pub of_field : (line : ℕ) (name : List ℕ) (values : List (List ℕ)) → fields_of (Field line name values) ≡ record { line = line; name = name; text = joined_text values } ∷ []
of_field line name values = ap fields_of (sym (rolls-Field line name values)) ∙ fold-roll-Element (List TopField) top_layer (open'.Field line name values)

-- a section has no field outside sections
pub of_section : (line : ℕ) (name args : List ℕ) (items : List Element) → fields_of (Section line name args items) ≡ []
of_section line name args items = ap fields_of (sym (rolls-Section line name args items)) ∙ fold-roll-Element (List TopField) top_layer (open'.Section line name args items)
