-- The record of an installed unit.
use Rattle.std.specs.Prelude.{◌≡◌, ◌⊎◌, ℕ, Bool, true, false, if◌then◌else◌, List, [], ◌∷◌, ◌++◌, flat_map, Option, Some, None, Result, Ok, Err}
use Rattle.std.specs.List.{list_any}
use Rattle.plan_types.specs.declared.element.Element.{Element}
use Rattle.plan_types.specs.declared.index.UnitRecord.{UnitRecord}
use Rattle.plan_types.specs.declared.refusal.Cause.{Cause}
use Rattle.plan_types.specs.declared.version.Version.{Version}
use Rattle.text_grammar.specs.Last.{last_given}
use Rattle.cabal_lexer.specs.Fault.{IsTree, IsFault}
use Rattle.unit_record.specs.Fields.{Field, Say, top_fields}
use Rattle.unit_record.specs.declared.field.RecordSaid.{RecordSaid}
use Rattle.unit_record.specs.declared.field.RecordSaid.TheVariants.{Name, Version as VersionOf, Id, Depends, LibName, Unread}
use Rattle.unit_record.specs.declared.contents.Contents.{Contents}

-- the contents of a record without fields
abbrev pub no_contents : Contents
no_contents = record { left_out = false; bad = None; name = None; version = None; id = None; depends = [] }

-- the contents that a field gives; a bad value gives none
abbrev pub given : RecordSaid → Contents
given (Name name) = record no_contents { name = name }
given (VersionOf version) = record no_contents { version = version }
given (Id id) = record no_contents { id = id }
given (Depends ids) = record no_contents { depends = ids }
given LibName = record no_contents { left_out = true }
given Unread = no_contents

-- whether a field marks the unit as a sublibrary
abbrev pub is_lib_name : RecordSaid → Bool
is_lib_name said = (given said).left_out

-- the name in a field
abbrev pub name_of : RecordSaid → Option (List ℕ)
name_of said = (given said).name

-- the version in a field
abbrev pub version_of : RecordSaid → Option Version
version_of said = (given said).version

-- the id in a field
abbrev pub id_of : RecordSaid → Option (List ℕ)
id_of said = (given said).id

-- the ids of the needed units in a field
abbrev pub depends_of : RecordSaid → List (List ℕ)
depends_of said = (given said).depends

-- whether there is no value
abbrev pub is_missing : {A : Type 0} → Option A → Bool
is_missing None = true
is_missing (Some a) = false

-- whether a value isn't well-formed
abbrev pub is_bad : RecordSaid → Bool
is_bad (Name name) = is_missing name
is_bad (VersionOf version) = is_missing version
is_bad (Id id) = is_missing id
is_bad (Depends ids) = false
is_bad LibName = false
is_bad Unread = false

-- the line of the first field with a bad value; lines rise from field to field
abbrev pub first_bad : List Field → Option ℕ
first_bad [] = None
first_bad (field ∷ fields) = if is_bad field.said then Some field.line else first_bad fields

-- the contents of all fields; the last name, version and id count, and the needs add up
abbrev pub contents : List Field → Contents
contents fields =
    record {
      left_out = list_any (λ field. is_lib_name field.said) fields;
      bad = first_bad fields;
      name = last_given (λ field. name_of field.said) fields;
      version = last_given (λ field. version_of field.said) fields;
      id = last_given (λ field. id_of field.said) fields;
      depends = flat_map (λ field. depends_of field.said) fields;
    }

-- the contents with one more field
abbrev pub Adds : ℕ → RecordSaid → Contents → Contents → Type 0
Adds line said old new = (fields : List Field) → old ≡ contents fields → new ≡ contents (fields ++ record { line = line; said = said } ∷ [])

-- the record if nothing is missing, else a fault at line 0
abbrev pub complete : Option (List ℕ) → Option Version → Option (List ℕ) → List (List ℕ) → Result (Option UnitRecord) ℕ
complete (Some name) (Some version) (Some id) depends = Ok (Some (record { name = name; version = version; id = id; depends = depends }))
complete (Some name) (Some version) None depends = Err 0
complete (Some name) None id depends = Err 0
complete None version id depends = Err 0

-- the outcome if no value is bad, else a fault at the line of the bad one
abbrev pub unless_bad : Option ℕ → Result (Option UnitRecord) ℕ → Result (Option UnitRecord) ℕ
unless_bad None found = found
unless_bad (Some line) found = Err line

-- the outcome of a record; that of a sublibrary is left out, whatever else it has
abbrev pub outcome : Contents → Result (Option UnitRecord) ℕ
outcome contents = if contents.left_out then Ok None else unless_bad contents.bad (complete contents.name contents.version contents.id contents.depends)

-- The outcome of the bytes: a record, none, or a fault at a line. If the layout has a fault, it is at that line.
abbrev pub IsRecord : List ℕ → Result (Option UnitRecord) ℕ → Type 0
IsRecord bytes found =
    ((line : ℕ) × (cause : Cause) × IsFault bytes line cause × (found ≡ Err line))
    ⊎ ((items : List Element) × (fields : List Field) × IsTree bytes items × Say (top_fields items) fields × (found ≡ outcome (contents fields)))
