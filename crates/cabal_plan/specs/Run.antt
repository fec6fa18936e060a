-- The end of the program, and the folder and sinks after it.
use Rattle.std.specs.Prelude.{◌≡◌, ◌≢◌, ℕ, ◌≤◌, List, Option, None, Some, Result, Ok, Err}
use Rattle.std.specs.IoError.{error_kind}
use Rattle.std.specs.declared.io.Error.{Error}
use Rattle.std.specs.declared.io.ErrorKind.{ErrorKind}
use Rattle.std.specs.declared.io.ErrorKind.TheVariants as kind
use Rattle.outside_folder.specs.Calls.{Leaves}
use Rattle.outside_folder.specs.Faults.{Rose}
use Rattle.outside_folder.specs.Files.{Bytes, Files}
use Rattle.fallible_values.specs.declared.memory.NoMemory.{NoMemory}
use Rattle.cabal_plan.specs.Failure.{IsLineWritten, failure_of}
use Rattle.cabal_plan.specs.Taken.{SinkState}
use Rattle.cabal_plan.specs.Words.{words_of}
use Rattle.command_line.specs.Reading.{reading}
use Rattle.command_line.specs.declared.reading.Command.{Command}
use Rattle.command_line.specs.declared.reading.Command.TheVariants.{Freeze, Generate, Plan, Replay}
use Rattle.plan_types.specs.declared.limit.Limit.{Limit}
use Rattle.plan_command.specs.Asked.{picking_of}
use Rattle.plan_command.specs.Form.{form_of}
use Rattle.plan_command.specs.Meaning.{Means, MeansFreeze, MeansGenerated, MeansReplay}
use Rattle.plan_command.specs.declared.status.Status.{Status}
use Rattle.plan_command.specs.declared.status.Status.TheVariants as status
use Rattle.plan_command.specs.Output.{IsUsageEnd, usage}
use Rattle.plan_command.specs.Run.{BuildsInOrder, IsOutputOf, MayPrint, Prints, Reads}
use Rattle.plan_command.specs.Status.{number_of_status}

-- The sink's count of faults rose iff a write failed.
pub record Writes (old new : SinkState) (end : Status) : Type 0 where
  pub later : old.faults ≤ new.faults
  pub rose : end ≡ status.WriteFault → Rose old.faults new.faults
  pub still : end ≢ status.WriteFault → new.faults ≡ old.faults

-- What a command prints over these files means what the command promises: for `plan`, that it is the plan of the first
-- complete, valid assignment, or that there is none.
abbrev pub PrintsMeaning : Option Command → Files → Option Bytes → Option Bytes → Status → Type 0
PrintsMeaning None files old new end = Prints (λ output. output ≡ usage) old new end
PrintsMeaning (Some (Plan options)) files old new end = Prints (Means (picking_of options) options.minimize (form_of options) options files) old new end
PrintsMeaning (Some (Generate number limit)) files old new end = Prints (MeansGenerated number limit) old new end
PrintsMeaning (Some (Freeze options)) files old new end = Prints (MeansFreeze options files) old new end
PrintsMeaning (Some (Replay options events slots)) files old new end = Prints (MeansReplay options events slots files) old new end

-- The end of one run over a folder. The output is that of the words and the files read for them, and no failure is
-- hidden.
pub record IsRunOver {F : Type 0} (tells : F → Option Files) (faults : F → ℕ) (words : List Bytes) (folder after : F) (old new : SinkState) (end : Status) : Type 0 where
  pub told : (files : Files) → Reads (reading words) (tells folder) files → Prints (IsOutputOf words files) old.bytes new.bytes end
  pub means : (files : Files) → Reads (reading words) (tells folder) files → PrintsMeaning (reading words) files old.bytes new.bytes end
  pub one_text : Prints (MayPrint (reading words)) old.bytes new.bytes end
  pub in_order : Prints (BuildsInOrder (reading words)) old.bytes new.bytes end
  pub usage_alone : end ≡ status.Usage → reading words ≡ None
  pub no_reading : reading words ≡ None → end ≢ status.NoMemory → IsUsageEnd end
  pub untouched : (number : ℕ) (limit : Limit) → reading words ≡ Some (Generate number limit) → (after ≡ folder) × (end ≢ status.ReadFault)
  pub reads : Leaves tells faults folder after (end ≡ status.ReadFault)
  pub writes : Writes old new end

-- out of memory, with nothing written
abbrev pub IsOutOfMemory : SinkState → SinkState → Status → Type 0
IsOutOfMemory old new end = (end ≡ status.NoMemory) × (new ≡ old)

-- the end of a run over a folder; without a folder, out of memory
abbrev pub IsEndOver : {F : Type 0} → (F → Option Files) → (F → ℕ) → List Bytes → Result F NoMemory → Result F NoMemory → SinkState → SinkState → Status → Type 0
IsEndOver tells faults words (Ok folder) (Ok after) old new end = IsRunOver tells faults words folder after old new end
IsEndOver tells faults words (Ok folder) (Err none) old new end = ⊥
IsEndOver tells faults words (Err none) after old new end = (after ≡ Err none) × IsOutOfMemory old new end

-- the end if the system can't give the words as text: out of memory, or the usage line is printed
pub record IsEndWithoutWords (why : ErrorKind) (old new : SinkState) (end : Status) : Type 0 where
  pub no_memory : why ≡ kind.OutOfMemory → IsOutOfMemory old new end
  pub no_text : why ≢ kind.OutOfMemory → IsUsageEnd end × Prints (λ output. output ≡ usage) old.bytes new.bytes end
  pub writes : Writes old new end

-- the end, by the arguments that the system gave or its error
abbrev pub IsEnd : {A F : Type 0} → (A → List Bytes) → (F → Option Files) → (F → ℕ) → Result A Error → Result F NoMemory → Result F NoMemory
    → SinkState → SinkState → Status → Type 0
IsEnd texts tells faults (Ok args) folder after old new end = IsEndOver tells faults (words_of (texts args)) folder after old new end
IsEnd texts tells faults (Err error) folder after old new end = (after ≡ folder) × IsEndWithoutWords (error_kind error) old new end

-- The exit status and the line on standard error are those of the end.
pub record IsExit {A F : Type 0} (texts : A → List Bytes) (tells : F → Option Files) (faults : F → ℕ) (args : Result A Error) (folder after : Result F NoMemory)
    (old new said_before said : SinkState) (number : ℕ) : Type 0 where
  pub end : Status
  pub number_is : number ≡ number_of_status end
  pub ends : IsEnd texts tells faults args folder after old new end
  pub line : IsLineWritten (failure_of end) said_before said
