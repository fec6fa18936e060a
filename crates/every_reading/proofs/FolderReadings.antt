-- Items processed one after another have an outcome, and so have the local files and the unit records of a folder.
use Rattle.std.proofs.Common.{◌==◌, true, List, [], ◌∷◌, length, map, Option, Some, None, Result, Ok, Err, refl}
use Rattle.plan_types.specs.declared.condition.Env.{Env}
use Rattle.plan_types.specs.declared.index.Places.{Places}
use Rattle.plan_types.specs.declared.index.UnitRecord.{UnitRecord}
use Rattle.plan_types.specs.declared.refusal.Cause.TheVariants.{TooLarge as ItIsTooLarge}
use Rattle.plan_types.specs.declared.refusal.Refusal.{Refusal}
use Rattle.description.specs.FaultOrder.{is_at}
use Rattle.description.specs.declared.fault_order.At.{At}
use Rattle.outside_folder.specs.Files.{Bytes, Files}
use Rattle.outside_folder.specs.declared.calls.Content.{Content}
use Rattle.plan_types.specs.declared.index.Source.{Source}
use Rattle.index_files.specs.File.{file_found, fitting}
use Rattle.index_files.specs.InTurn.{GoesOn, InTurn}
use Rattle.index_files.specs.Locals.{FileComes, ReadsLocals, with_file}
use Rattle.index_files.specs.Sources.{Comes, OfBytes, bytes_in}
use Rattle.index_files.specs.Units.{OfRecord, ReadsUnits, RecordComes, record_files, record_outcome, unless_beyond, with_record}
use Rattle.index_files.specs.declared.local.Local.{Local}
use Rattle.index_files.specs.declared.unit.Unit.{Unit}
use Rattle.every_reading.proofs.RecordAnswers.{some_record}
use Rattle.every_reading.proofs.SourceAnswers.{some_source}

-- the outcome after a value or a refusal
pub go_on : {S T R : Type 0} (next : Result S R) (Rest : S → Result T R → Type 0) → ((s : S) → (outcome : Result T R) × Rest s outcome)
    → (outcome : Result T R) × GoesOn next (λ s. Rest s outcome) outcome
go_on (Ok s) Rest more = more s
go_on (Err refusal) Rest more = (Err refusal, refl)

module _ {X O S R : Type 0} (Comes : X → O → Type 0) (step : S → X → O → Result S R) (come : (x : X) → (o : O) × Comes x o) where
  pub in_turn : (taken : S) (xs : List X) → (outcome : Result S R) × InTurn Comes step taken xs outcome
  in_turn taken [] = (Ok taken, refl)
  in_turn taken (x ∷ xs) =
      let own = come x in
      let rest = go_on (step taken x own.0) (λ s outcome. InTurn Comes step s xs outcome) (λ s. in_turn s xs) in
      (rest.0, (own.0, own.1, rest.1))

-- ---- files

of_bytes : (env : Env) (bytes : Option Bytes) → (outcome : Result Source At) × OfBytes env bytes outcome
of_bytes env None = (Err (is_at 0 ItIsTooLarge), refl)
of_bytes env (Some bytes) = some_source env bytes

pub comes : (env : Env) (content : Content) → (outcome : Result Source At) × Comes env content outcome
comes env content = of_bytes env (bytes_in content)

pub some_locals : (env : Env) (paths : List Bytes) (files : Files) → (outcome : Result (List Local) Refusal) × ReadsLocals env paths files outcome
some_locals env paths files = in_turn (FileComes env) with_file (λ file. comes env file.content) [] (map (file_found true files) paths)

-- ---- records

of_record : (bytes : Option Bytes) → (outcome : Result (Option UnitRecord) At) × OfRecord bytes outcome
of_record None = (Err (is_at 0 ItIsTooLarge), refl)
of_record (Some bytes) = let found = some_record bytes in (record_outcome found.0, (found.0, found.1, refl))

pub some_units : (places : Places) (files : Files) → (outcome : Result (List Unit) Refusal) × ReadsUnits places files outcome
some_units places files =
    let all = record_files places files in
    let read = fitting 0 0 all in
    let units = in_turn RecordComes with_record (λ file. of_record (bytes_in file.content)) [] read in
    (unless_beyond places (length read == length all) units.0, (units.0, units.1, refl))
