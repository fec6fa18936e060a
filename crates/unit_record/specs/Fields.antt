-- The fields of a record, and their values.
use Rattle.std.specs.Prelude.{◌≡◌, ℕ, if◌then◌else◌, List, [], ◌∷◌, codes, flat_map, Option, Some, None}
use Rattle.plan_types.specs.Bytes.{joined_text, same_text}
use Rattle.plan_types.specs.declared.element.Element.{Element, Element-F, fold-Element}
use Rattle.plan_types.specs.declared.element.Element.TheOpen as element
use Rattle.plan_types.specs.declared.version.Version.{Version}
use Rattle.version_range.specs.Version.{IsVersionOf}
use Rattle.text_grammar.specs.Words.{package_name, words}
use Rattle.text_grammar.specs.declared.word.Between.TheVariants.{BlanksAndCommas}
use Rattle.unit_record.specs.Words.{is_unit_id}
use Rattle.unit_record.specs.declared.field.RecordFieldWord.{RecordFieldWord}
use Rattle.unit_record.specs.declared.field.RecordFieldWord.TheVariants as fields
use Rattle.unit_record.specs.declared.field.RecordSaid.{RecordSaid}
use Rattle.unit_record.specs.declared.field.RecordSaid.TheVariants as said

-- a field outside sections, with its values joined by single spaces
pub record TopField : Type 0 where
  pub line : ℕ
  pub name : List ℕ
  pub text : List ℕ

-- the fields outside sections, in one layer of an element
abbrev pub top_layer : Element-F (List TopField) → List TopField
top_layer (element.Field line name values) = record { line = line; name = name; text = joined_text values } ∷ []
top_layer (element.Section line name args items) = []

-- the fields of an element outside sections
abbrev pub fields_of : Element → List TopField
fields_of = fold-Element (List TopField) top_layer

-- those of all elements
abbrev pub top_fields : List Element → List TopField
top_fields items = flat_map fields_of items

-- the field with this name
abbrev pub field_word : List ℕ → RecordFieldWord
field_word name =
    if same_text name (codes "name") then fields.Name
    else if same_text name (codes "version") then fields.Version
    else if same_text name (codes "id") then fields.Id
    else if same_text name (codes "depends") then fields.Depends
    else if same_text name (codes "lib-name") then fields.LibName
    else fields.Unread

-- the text, if it is the id of a unit
abbrev pub unit_id : List ℕ → Option (List ℕ)
unit_id text = if is_unit_id text then Some text else None

-- the value of a field with this text
abbrev pub FieldSays : RecordFieldWord → List ℕ → RecordSaid → Type 0
FieldSays fields.Name text found = found ≡ said.Name (package_name text)
FieldSays fields.Version text found = (version : Option Version) × IsVersionOf text version × (found ≡ said.Version version)
FieldSays fields.Id text found = found ≡ said.Id (unit_id text)
FieldSays fields.Depends text found = found ≡ said.Depends (words BlanksAndCommas text)
FieldSays fields.LibName text found = found ≡ said.LibName
FieldSays fields.Unread text found = found ≡ said.Unread

-- a field with its line and value
pub record Field : Type 0 where
  pub line : ℕ
  pub said : RecordSaid

-- the lines and values of the fields, one by one
abbrev pub Say : List TopField → List Field → Type 0
Say [] [] = Unit {0}
Say [] (field ∷ fields) = ⊥
Say (top ∷ tops) [] = ⊥
Say (top ∷ tops) (field ∷ fields) = (field.line ≡ top.line) × FieldSays (field_word top.name) top.text field.said × Say tops fields
