-- The fields of a record have readings, and the record has an outcome.
use Rattle.std.proofs.Common.{inl, inr, ℕ, List, [], ◌∷◌, Err, refl}
use Rattle.std.specs.Prelude.{Option, Result}
use Rattle.plan_types.specs.declared.index.UnitRecord.{UnitRecord}
use Rattle.text_grammar.specs.Words.{package_name, words}
use Rattle.text_grammar.specs.declared.word.Between.TheVariants.{BlanksAndCommas}
use Rattle.unit_record.specs.Fields.{TopField, Field, FieldSays, Say, field_word, top_fields, unit_id}
use Rattle.unit_record.specs.Record.{IsRecord, contents, outcome}
use Rattle.unit_record.specs.declared.field.RecordFieldWord.{RecordFieldWord}
use Rattle.unit_record.specs.declared.field.RecordFieldWord.TheVariants as fields
use Rattle.unit_record.specs.declared.field.RecordSaid.{RecordSaid}
use Rattle.unit_record.specs.declared.field.RecordSaid.TheVariants as said
use Rattle.every_reading.proofs.LoopReadings.{version_or_none}
use Rattle.every_reading.proofs.Trees.{some_tree}

field_says : (word : RecordFieldWord) (text : List ℕ) → (found : RecordSaid) × FieldSays word text found
field_says fields.Name text = (said.Name (package_name text), refl)
field_says fields.Version text = let version = version_or_none text in (said.Version version.0, (version.0, version.1, refl))
field_says fields.Id text = (said.Id (unit_id text), refl)
field_says fields.Depends text = (said.Depends (words BlanksAndCommas text), refl)
field_says fields.LibName text = (said.LibName, refl)
field_says fields.Unread text = (said.Unread, refl)

all_say : (tops : List TopField) → (fields : List Field) × Say tops fields
all_say [] = ([], tt)
all_say (top ∷ tops) =
    let found = field_says (field_word top.name) top.text in
    let others = all_say tops in
    (record { line = top.line; said = found.0 } ∷ others.0, (refl, found.1, others.1))

pub some_record : (bytes : List ℕ) → (found : Result (Option UnitRecord) ℕ) × IsRecord bytes found
some_record bytes =
    elim (some_tree bytes) [
      | inl tree ↦ let say = all_say (top_fields tree.0) in (outcome (contents say.0), inr (tree.0, say.0, tree.1, say.1, refl))
      | inr fault ↦ (Err fault.0, inl (fault.0, fault.1, fault.2, refl))
    ]
