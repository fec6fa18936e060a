-- The readings of a folder, from those of its parts.
use Rattle.std.proofs.Common.{List, Result, Ok, Err, refl, subst}
use Rattle.outside_folder.specs.Files.{Bytes, Files}
use Rattle.plan_types.specs.declared.condition.Env.{Env}
use Rattle.plan_types.specs.declared.dependency.Named.{Named}
use Rattle.plan_types.specs.declared.refusal.Refusal.{Refusal}
use Rattle.index_files.specs.File.{CountsAll, size_all}
use Rattle.index_files.specs.Locals.{ReadsLocals}
use Rattle.index_files.specs.Readings.{AreIndexed, AreReadings}
use Rattle.index_files.specs.Units.{ReadsUnits, record_files}
use Rattle.index_files.specs.declared.local.Local.{Local}
use Rattle.plan_types.specs.declared.index.Places.{Places}
use Rattle.index_files.specs.declared.readings.Readings.{Readings}
use Rattle.index_files.specs.declared.totals.Totals.{Totals}
use Rattle.index_files.specs.declared.unit.Unit.{Unit}

-- ---- all

module _ (env : Env) (places : Places) (extra : List Named) (paths : List Bytes) (files : Files) where
  pub locals-refused : (r : Refusal) → ReadsLocals env paths files (Err r) → AreReadings env places extra paths files (Err r)
  locals-refused r h = (Err r, h, refl)

  pub then-refused : (ls : List Local) (r : Refusal) → ReadsLocals env paths files (Ok ls) → ReadsUnits places files (Err r) → AreReadings env places extra paths files (Err r)
  then-refused ls r h k = (Ok ls, h, (Err r, k, refl))

  pub then-indexed : (ls : List Local) (us : List Unit) (totals : Totals) (outcome : Result Readings Refusal) → ReadsLocals env paths files (Ok ls) → ReadsUnits places files (Ok us) → CountsAll totals (record_files places files)
      → AreIndexed (record { env = env; places = places; locals = ls; units = us; extra = extra }) totals.files totals.bytes files outcome → AreReadings env places extra paths files outcome
  then-indexed ls us totals outcome h k c i = (
    Ok ls,
    h,
    (
      Ok us,
      k,
      subst (λ n. AreIndexed (record { env = env; places = places; locals = ls; units = us; extra = extra }) n (size_all (record_files places files)) files outcome) c.files
          (subst (λ n. AreIndexed (record { env = env; places = places; locals = ls; units = us; extra = extra }) totals.files n files outcome) c.bytes i),
    ),
  )
