-- The outcome of a record's file, from the reading of its bytes.
use Rattle.std.proofs.Common.{◌≡◌, ℕ, true, List, Option, Some, None, Result, Ok, Err, refl, ap}
use Rattle.std.specs.Prelude.{IfErr, IfOk, IfSome}
use Rattle.plan_types.specs.Name.{is_package_name}
use Rattle.plan_types.specs.Refusal.{RefusesAt}
use Rattle.plan_types.specs.declared.index.UnitRecord.{UnitRecord}
use Rattle.plan_types.specs.declared.refusal.Cause.TheVariants.{BadRecord}
use Rattle.plan_types.specs.declared.refusal.Fault.{Fault}
use Rattle.plan_types.specs.declared.refusal.Fault.TheVariants as fault
use Rattle.version_range.specs.Version.{is_version}
use Rattle.description.specs.FaultOrder.{is_at}
use Rattle.unit_record.specs.Record.{IsRecord}
use Rattle.index_files.specs.Units.{OfRecord, is_well_formed}
use Rattle.std.proofs.lemmas.Bool.{and_from}

pub found-as : (bytes : List ℕ) (result : Result (Option UnitRecord) Fault) → IfOk result (λ found. IsRecord bytes (Ok found)) → IfOk result (λ found. OfRecord (Some bytes) (Ok found))
found-as bytes (Ok found) h = (Ok found, h, refl)
found-as bytes (Err f) h = tt

pub fault-as : (bytes : List ℕ) (result : Result (Option UnitRecord) Fault) → IfErr result (RefusesAt (λ line cause. (cause ≡ BadRecord) × IsRecord bytes (Err line)))
    → IfErr result (RefusesAt (λ line cause. OfRecord (Some bytes) (Err (is_at line cause))))
fault-as bytes (Ok found) h = tt
fault-as bytes (Err fault.NoMemory) h = tt
fault-as bytes (Err (fault.At line cause)) h = (Err line, h.1, ap (λ c. Err (is_at line c)) h.0)

formed : (path : List ℕ) (r : UnitRecord) → is_package_name r.name ≡ true → is_version r.version.parts ≡ true → is_well_formed (record { path = path; record_of = r }) ≡ true
formed path r h k = and_from _ _ h k

pub formed-as : (result : Result (Option UnitRecord) Fault) → IfOk result (λ found. IfSome found (λ r. is_package_name r.name ≡ true)) → IfOk result (λ found. IfSome found (λ r. is_version r.version.parts ≡ true))
    → IfOk result (λ found. IfSome found (λ r. (path : List ℕ) → is_well_formed (record { path = path; record_of = r }) ≡ true))
formed-as (Ok None) h k = tt
formed-as (Ok (Some r)) h k = λ path. formed path r h k
formed-as (Err f) h k = tt
