-- A folder has a project and an index, or a first refusal.
use Rattle.std.proofs.Common.{List, Result, Ok, Err, refl}
use Rattle.plan_types.specs.declared.condition.Env.{Env}
use Rattle.plan_types.specs.declared.dependency.Named.{Named}
use Rattle.plan_types.specs.declared.index.Index.{Index}
use Rattle.plan_types.specs.declared.index.Places.{Places}
use Rattle.plan_types.specs.declared.refusal.Refusal.{Refusal}
use Rattle.outside_folder.specs.Files.{Bytes, Files}
use Rattle.project_config.specs.Project.{IsFolderProject, first_too_large, located, project_files, texts_among, unless_large}
use Rattle.project_config.specs.declared.project.FolderProject.{FolderProject}
use Rattle.index_files.specs.Closure.{Ground}
use Rattle.index_files.specs.File.{count_all, size_all}
use Rattle.index_files.specs.InTurn.{GoesOn}
use Rattle.index_files.specs.Readings.{AreIndexed, AreReadings}
use Rattle.index_files.specs.Units.{ReadsUnits, record_files}
use Rattle.index_files.specs.declared.local.Local.{Local}
use Rattle.index_files.specs.declared.readings.Readings.{Readings}
use Rattle.index_files.specs.declared.unit.Unit.{Unit}
use Rattle.index_assembly.specs.Folder.{Gathers, IsFolderIndex}
use Rattle.index_assembly.specs.Index.{index_of}
use Rattle.every_reading.proofs.ProjectAnswers.{some_project}
use Rattle.every_reading.proofs.Closures.{some_indexed}
use Rattle.every_reading.proofs.Lacking.{some_lacking}
use Rattle.every_reading.proofs.FolderReadings.{go_on, some_locals, some_units}

pub some_folder_project : (env : Env) (files : Files) → (outcome : Result FolderProject Refusal) × IsFolderProject env files outcome
some_folder_project env files =
    let read = some_project env (texts_among files project_files) in
    let said = unless_large (first_too_large files project_files) read.0 in
    (located files said, (said, (read.0, read.1, refl), refl))

module _ (env : Env) (places : Places) (extra : List Named) (paths : List Bytes) (files : Files) where
  abbrev ground_with : List Local → List Unit → Ground
  ground_with locals units = record { env = env; places = places; locals = locals; units = units; extra = extra }

  abbrev IndexedAs : List Local → List Unit → Result Readings Refusal → Type 0
  IndexedAs locals units outcome =
      AreIndexed (ground_with locals units) (count_all (record_files places files)) (size_all (record_files places files)) files outcome

  abbrev UnitsAs : List Local → Result Readings Refusal → Type 0
  UnitsAs locals outcome = (units : Result (List Unit) Refusal) × ReadsUnits places files units × GoesOn units (λ units. IndexedAs locals units outcome) outcome

  behind_locals : (locals : List Local) → (outcome : Result Readings Refusal) × UnitsAs locals outcome
  behind_locals locals =
      let units = some_units places files in
      let rest = go_on units.0 (IndexedAs locals)
      (λ units. some_indexed (ground_with locals units) files (count_all (record_files places files)) (size_all (record_files places files))) in
      (rest.0, (units.0, units.1, rest.1))

  some_readings : (outcome : Result Readings Refusal) × AreReadings env places extra paths files outcome
  some_readings =
      let locals = some_locals env paths files in
      let rest = go_on locals.0 UnitsAs behind_locals in
      (rest.0, (locals.0, locals.1, rest.1))

  gathered : (readings : Result Readings Refusal) → (outcome : Result Index Refusal) × Gathers extra readings outcome
  gathered (Ok readings) =
      let lacking = some_lacking readings.units in
      let index = index_of extra readings lacking.0 in
      (Ok index, (index, record { lacking = lacking.0; lacks = lacking.1; index_is = refl }, refl))
  gathered (Err refusal) = (Err refusal, refl)

  pub some_folder_index : (outcome : Result Index Refusal) × IsFolderIndex env places extra paths files outcome
  some_folder_index =
      let readings = some_readings in
      let index = gathered readings.0 in
      (index.0, (readings.0, readings.1, index.1))
