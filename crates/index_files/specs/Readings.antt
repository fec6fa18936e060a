-- All that is read of a folder.
use Rattle.std.specs.Prelude.{◌≡◌, ℕ, List, [], map, Result, Ok, Err}
use Rattle.std.specs.List.{AllByRecursion, IsDistinct}
use Rattle.plan_types.specs.declared.condition.Env.{Env}
use Rattle.plan_types.specs.declared.dependency.Named.{Named}
use Rattle.plan_types.specs.declared.refusal.Cause.TheVariants.{TooMany}
use Rattle.plan_types.specs.declared.refusal.Refusal.{Refusal}
use Rattle.outside_folder.specs.Files.{Bytes, Files}
use Rattle.index_files.specs.Closure.{Ground, IsBeyond, IsWhole}
use Rattle.index_files.specs.File.{count_all, size_all}
use Rattle.index_files.specs.InTurn.{GoesOn}
use Rattle.index_files.specs.Locals.{FileComes, ReadsLocals, local_names}
use Rattle.index_files.specs.Steps.{AreKept}
use Rattle.index_files.specs.Units.{IsWellFormed, ReadsUnits, record_files, unit_ids}
use Rattle.index_files.specs.declared.file.ReadFile.{ReadFile}
use Rattle.index_files.specs.declared.local.Local.{Local}
use Rattle.plan_types.specs.declared.index.Places.{Places}
use Rattle.index_files.specs.declared.readings.Readings.{Readings}
use Rattle.index_files.specs.declared.unit.Unit.{Unit}
use Rattle.plan_types.specs.Bytes.{same_text}

-- local packages and units are those of the ground, and the whole closure is found
pub record AreRead (ground : Ground) (count size : ℕ) (files : Files) (readings : Readings) : Type 0 where
  pub locals : readings.locals ≡ ground.locals
  pub units : readings.units ≡ ground.units
  pub found : IsWhole ground count size files readings.found

-- the closure has too many files, and the index directory is refused
pub record AreTooMany (ground : Ground) (count size : ℕ) (files : Files) (refusal : Refusal) : Type 0 where
  pub beyond : IsBeyond ground count size files
  pub refusal_is : refusal ≡ record { path = ground.places.index; line = 0; cause = TooMany; detail = [] }

-- the readings, or the refusal for too many files
abbrev pub AreIndexed : Ground → ℕ → ℕ → Files → Result Readings Refusal → Type 0
AreIndexed ground count size files (Ok readings) = AreRead ground count size files readings
AreIndexed ground count size files (Err refusal) = AreTooMany ground count size files refusal

-- The readings of a folder: first the local files, then the unit records, then the closure.
abbrev pub AreReadings : Env → Places → List Named → List Bytes → Files → Result Readings Refusal → Type 0
AreReadings env places extra paths files outcome =
    (locals : Result (List Local) Refusal) × ReadsLocals env paths files locals
    × GoesOn locals (λ locals. (units : Result (List Unit) Refusal) × ReadsUnits places files units
    × GoesOn units (λ units.
    let records = record_files places files in
    AreIndexed (record { env = env; places = places; locals = locals; units = units; extra = extra }) (count_all records) (size_all records) files outcome)
    outcome) outcome

-- a local package has the source of some file
abbrev pub IsFromFile : Env → Local → Type 0
IsFromFile env local = (file : ReadFile) × FileComes env file (Ok local.source)

-- each local package has the source of some file, and their names are distinct
pub record AreFromFiles (env : Env) (locals : List Local) : Type 0 where
  pub once : IsDistinct same_text (local_names locals)
  pub read : AllByRecursion (IsFromFile env) locals

-- the readings are over this ground
pub record AreOverGround (ground : Ground) (readings : Readings) : Type 0 where
  pub locals : readings.locals ≡ ground.locals
  pub units : readings.units ≡ ground.units
  pub units_formed : AllByRecursion IsWellFormed readings.units
  pub kept : AreKept ground (map (λ f. f.name) readings.found) readings.found

-- properties of the readings of any folder, observable or not
pub record AreWellFormed (env : Env) (places : Places) (extra : List Named) (readings : Readings) : Type 0 where
  pub locals : AreFromFiles env readings.locals
  pub units_once : IsDistinct same_text (unit_ids readings.units)
  pub units_formed : AllByRecursion IsWellFormed readings.units
  pub kept : AreKept (record { env = env; places = places; locals = readings.locals; units = readings.units; extra = extra }) (map (λ f. f.name) readings.found) readings.found
