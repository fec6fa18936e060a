-- The outcomes of local files and unit records are unique.
use Rattle.std.proofs.Common.{◌≡◌, ◌==◌, ℕ, true, List, [], length, map, Option, Some, None, sym, ◌∙◌, ap}
use Rattle.std.specs.declared.result.Result.{Result}
use Rattle.plan_types.specs.declared.condition.Env.{Env}
use Rattle.plan_types.specs.declared.index.UnitRecord.{UnitRecord}
use Rattle.plan_types.specs.declared.refusal.Refusal.{Refusal}
use Rattle.description.specs.declared.fault_order.At.{At}
use Rattle.outside_folder.specs.Files.{Bytes, Files}
use Rattle.outside_folder.specs.declared.calls.Content.{Content}
use Rattle.cabal_file.specs.Source.{IsSource}
use Rattle.plan_types.specs.declared.index.Source.{Source}
use Rattle.unit_record.specs.Record.{IsRecord}
use Rattle.index_files.specs.File.{file_found, fitting}
use Rattle.index_files.specs.Locals.{FileComes, ReadsLocals, with_file}
use Rattle.index_files.specs.Sources.{Comes, OfBytes, bytes_in}
use Rattle.index_files.specs.Units.{OfRecord, ReadsUnits, RecordComes, record_files, record_outcome, unless_beyond, with_record}
use Rattle.index_files.specs.declared.local.Local.{Local}
use Rattle.plan_types.specs.declared.index.Places.{Places}
use Rattle.index_files.specs.declared.unit.Unit.{Unit}
use Rattle.index_files.proofs.StepsInTurn.{one-outcome}

-- a file has at most one source or fault
abbrev pub HasOneSource : Type 0
HasOneSource = (env : Env) (bytes : Bytes) (a b : Result Source At) → IsSource env bytes a → IsSource env bytes b → a ≡ b

-- a record has at most one reading
abbrev pub HasOneRecord : Type 0
HasOneRecord = (bytes : Bytes) (a b : Result (Option UnitRecord) ℕ) → IsRecord bytes a → IsRecord bytes b → a ≡ b

module _ (one_source : HasOneSource) where
  one-of-bytes : (env : Env) (bytes : Option Bytes) (a b : Result Source At) → OfBytes env bytes a → OfBytes env bytes b → a ≡ b
  one-of-bytes env None a b h k = h ∙ sym k
  one-of-bytes env (Some bytes) a b h k = one_source env bytes a b h k

  pub one-comes : (env : Env) (content : Content) (a b : Result Source At) → Comes env content a → Comes env content b → a ≡ b
  one-comes env content a b h k = one-of-bytes env (bytes_in content) a b h k

  pub one-locals : (env : Env) (files : Files) (paths : List Bytes) (a b : Result (List Local) Refusal) → ReadsLocals env paths files a → ReadsLocals env paths files b → a ≡ b
  one-locals env files paths a b h k =
      one-outcome (FileComes env) with_file (λ file x y p q. one-comes env file.content x y p q) [] (map (file_found true files) paths) a b h k

module _ (one_record : HasOneRecord) where
  one-of-record : (bytes : Option Bytes) (a b : Result (Option UnitRecord) At) → OfRecord bytes a → OfRecord bytes b → a ≡ b
  one-of-record None a b h k = h ∙ sym k
  one-of-record (Some bytes) a b h k = h.2 ∙ ap record_outcome (one_record bytes h.0 k.0 h.1 k.1) ∙ sym k.2

  pub one-units : (places : Places) (files : Files) (a b : Result (List Unit) Refusal) → ReadsUnits places files a → ReadsUnits places files b → a ≡ b
  one-units places files a b h k =
      let all = record_files places files in
      let read = fitting 0 0 all in
      let units = one-outcome RecordComes with_record (λ file x y p q. one-of-record (bytes_in file.content) x y p q) [] read h.0 k.0 h.1 k.1 in
      h.2 ∙ ap (unless_beyond places (length read == length all)) units ∙ sym k.2
