-- The index of a folder.
use Rattle.std.specs.Prelude.{◌≡◌, List, Result, Ok, Err}
use Rattle.plan_types.specs.declared.condition.Env.{Env}
use Rattle.plan_types.specs.declared.dependency.Named.{Named}
use Rattle.plan_types.specs.declared.index.Index.{Index}
use Rattle.plan_types.specs.declared.refusal.Refusal.{Refusal}
use Rattle.outside_folder.specs.Files.{Bytes, Files}
use Rattle.index_files.specs.Readings.{AreReadings}
use Rattle.plan_types.specs.declared.index.Places.{Places}
use Rattle.index_files.specs.declared.readings.Readings.{Readings}
use Rattle.index_assembly.specs.Index.{IsIndexOf}

-- the outcome of readings: their index, or the refusal
abbrev pub Gathers : List Named → Result Readings Refusal → Result Index Refusal → Type 0
Gathers extra (Ok readings) outcome = (index : Index) × IsIndexOf extra readings index × (outcome ≡ Ok index)
Gathers extra (Err refusal) outcome = outcome ≡ Err refusal

-- The index of a folder with local files at these paths, or the first refusal.
abbrev pub IsFolderIndex : Env → Places → List Named → List Bytes → Files → Result Index Refusal → Type 0
IsFolderIndex env places extra paths files outcome =
    (readings : Result Readings Refusal) × AreReadings env places extra paths files readings × Gathers extra readings outcome
