-- The installed units of a folder, from their records.
use Rattle.std.specs.Prelude.{◌≡◌, ℕ, ◌&&◌, Bool, true, false, not, if◌then◌else◌, List, [], ◌∷◌, codes, length, map, filter, flat_map, position, slice_get, unwrap_or, nat_eq, ◌==◌, Option, Some, None}
use Rattle.std.specs.List.{ends_with}
use Rattle.std.specs.declared.result.Result.{Result}
use Rattle.std.specs.declared.result.Result.TheVariants.{Ok, Err}
use Rattle.plan_types.specs.declared.index.UnitRecord.{UnitRecord}
use Rattle.plan_types.specs.declared.refusal.Cause.TheVariants.{BadRecord, DuplicateUnit, TooLarge, TooMany}
use Rattle.plan_types.specs.Refusal.{refusal_at}
use Rattle.plan_types.specs.declared.refusal.Refusal.{Refusal}
use Rattle.plan_types.specs.Name.{is_package_name}
use Rattle.version_range.specs.Version.{is_version}
use Rattle.description.specs.FaultOrder.{is_at}
use Rattle.description.specs.declared.fault_order.At.{At}
use Rattle.outside_folder.specs.Files.{Bytes, Files, listing}
use Rattle.outside_folder.specs.declared.folder.Name.{Name}
use Rattle.unit_record.specs.Record.{IsRecord}
use Rattle.index_files.specs.File.{file_found, fitting}
use Rattle.index_files.specs.InTurn.{InTurn}
use Rattle.index_files.specs.OnceEach.{unless_there}
use Rattle.index_files.specs.Places.{record_path}
use Rattle.index_files.specs.Sources.{bytes_in}
use Rattle.index_files.specs.declared.file.ReadFile.{ReadFile}
use Rattle.plan_types.specs.declared.index.Places.{Places}
use Rattle.index_files.specs.declared.unit.Unit.{Unit}
use Rattle.plan_types.specs.Bytes.{same_text}

-- ---- a record

-- the unit of a record; the fault has the line
abbrev pub record_outcome : Result (Option UnitRecord) ℕ → Result (Option UnitRecord) At
record_outcome (Ok found) = Ok found
record_outcome (Err line) = Err (is_at line BadRecord)

-- the outcome of a record's bytes, or the fault of a file that is too large
abbrev pub OfRecord : Option Bytes → Result (Option UnitRecord) At → Type 0
OfRecord None outcome = outcome ≡ Err (is_at 0 TooLarge)
OfRecord (Some bytes) outcome = (found : Result (Option UnitRecord) ℕ) × IsRecord bytes found × (outcome ≡ record_outcome found)

-- the outcome of a record's file
abbrev pub RecordComes : ReadFile → Result (Option UnitRecord) At → Type 0
RecordComes file outcome = OfRecord (bytes_in file.content) outcome

-- ---- the units

-- the id of a unit
abbrev pub unit_id : Unit → Bytes
unit_id u = u.record_of.id

-- the package name of a unit
abbrev pub unit_name : Unit → Bytes
unit_name u = u.record_of.name

-- the ids of units
abbrev pub unit_ids : List Unit → List Bytes
unit_ids units = map unit_id units

-- the place of the unit of an id
abbrev pub place_of : List Unit → Bytes → Option ℕ
place_of units id = position (same_text id) (unit_ids units)

-- the path of a unit's record
abbrev pub unit_path : Unit → Bytes
unit_path u = u.path

-- a unit appended, or refused if its id is there already
abbrev pub with_unit : List Unit → Unit → Result (List Unit) Refusal
with_unit units u = unless_there unit_path DuplicateUnit (place_of units (unit_id u)) units u

-- the unit of a record appended; the record of a sublibrary has none
abbrev pub with_found : List Unit → Bytes → Option UnitRecord → Result (List Unit) Refusal
with_found units path None = Ok units
with_found units path (Some found) = with_unit units (record { path = path; record_of = found })

-- the outcome of appending the unit of a record
abbrev pub TakesUnit : List Unit → Bytes → UnitRecord → Result (List Unit) Refusal → Type 0
TakesUnit units path record_of outcome = with_unit units (record { path = path; record_of = record_of }) ≡ outcome

-- the same for a record that may have no unit
abbrev pub TakesFound : List Unit → Bytes → Option UnitRecord → Result (List Unit) Refusal → Type 0
TakesFound units path found outcome = with_found units path found ≡ outcome

-- the unit of a record appended, or the refusal of its fault
abbrev pub with_record : List Unit → ReadFile → Result (Option UnitRecord) At → Result (List Unit) Refusal
with_record units file (Ok found) = with_found units file.path found
with_record units file (Err at) = Err (refusal_at file.path at.line at.cause)

-- the units of these files, or the first refusal
abbrev pub AreUnits : List ReadFile → Result (List Unit) Refusal → Type 0
AreUnits files outcome = InTurn RecordComes with_record [] files outcome

-- ---- the folder

-- whether a name is that of a record: a file that ends in `.conf`
abbrev pub is_record : Name → Bool
is_record name = not name.folder && ends_with nat_eq name.text (codes ".conf")

-- the paths of the records among these names
abbrev pub record_paths : Places → List Name → List Bytes
record_paths places names = map (λ name. record_path places name.text) (filter is_record names)

module _ (places : Places) (files : Files) where
  -- the paths of all records in the folder
  abbrev pub paths_of_records : List Bytes
  paths_of_records = record_paths places (unwrap_or (listing files places.installed) [])

  -- the files of the records
  abbrev pub record_files : List ReadFile
  record_files = map (file_found true files) paths_of_records

-- after the records that fit, too many of them are refused
abbrev pub unless_beyond : Places → Bool → Result (List Unit) Refusal → Result (List Unit) Refusal
unless_beyond places true outcome = outcome
unless_beyond places false (Ok units) = Err (refusal_at places.installed 0 TooMany)
unless_beyond places false (Err refusal) = Err refusal

-- the units of these records before the first one too many, or the first refusal
abbrev pub AreUnitsOf : Places → List ReadFile → Result (List Unit) Refusal → Type 0
AreUnitsOf places all outcome =
    let read = fitting 0 0 all in
    (units : Result (List Unit) Refusal) × AreUnits read units × (outcome ≡ unless_beyond places (length read == length all) units)

-- the units of a folder, or the first refusal
abbrev pub ReadsUnits : Places → Files → Result (List Unit) Refusal → Type 0
ReadsUnits places files outcome = AreUnitsOf places (record_files places files) outcome

-- ---- names that records mention

-- the package name of the unit at a place
abbrev pub name_at : List Unit → ℕ → List Bytes
name_at units place = elim (slice_get units place) [ None ↦ [] | Some u ↦ unit_name u ∷ [] ]

-- the package name of the unit with this id, if it has a record
abbrev pub known_name : List Unit → Bytes → List Bytes
known_name units id = elim (place_of units id) [ None ↦ [] | Some place ↦ name_at units place ]

-- the package names of the units that a unit needs, except those without a record
abbrev pub needed_names : List Unit → Unit → List Bytes
needed_names units u = flat_map (known_name units) u.record_of.depends

-- the names that the records of one name mention, among some records
abbrev pub needed_among : List Unit → Bytes → List Unit → List Bytes
needed_among units name some = flat_map (λ u. if same_text (unit_name u) name then needed_names units u else []) some

-- the names that the records of one name mention
abbrev pub needed_by : List Unit → Bytes → List Bytes
needed_by units name = needed_among units name units

-- whether the name and version of a unit are well-formed
abbrev pub is_well_formed : Unit → Bool
is_well_formed u = is_package_name (unit_name u) && is_version u.record_of.version.parts

-- the name and version of a unit are well-formed
pub record IsWellFormed (u : Unit) : Type 0 where
  pub name : is_package_name (unit_name u) ≡ true
  pub version : is_version u.record_of.version.parts ≡ true
