use Rattle.std.proofs.Common.{◌≡◌, ℕ, true, List}
use Rattle.plan_types.specs.declared.index.UnitRecord.{UnitRecord}
use Rattle.index_files.specs.Units.{is_well_formed}
use Rattle.common_laws.specs.Small.{some_at}
use Rattle.index_files.proofs.units.Units.with_found.Goals as goal

pub with_record-requires : goal.with_record-requires
with_record-requires c =
    some_at (λ (r : UnitRecord). (path : List ℕ) → is_well_formed (record { path = path; record_of = r }) ≡ true) c.args.found c.in-Some.record_of c.in-Some.is c.requires c.args.path.now
