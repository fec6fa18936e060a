-- The end of the program, and the folder and sinks after it.
use Rattle.std.specs.Prelude.{◌≡◌, ◌≢◌, ℕ, List, [], ◌∷◌, Option, Some, Result, Ok, Err}
use Rattle.std.specs.IoError.{error_kind}
use Rattle.std.specs.declared.io.Error.{Error}
use Rattle.std.specs.declared.io.ErrorKind.{ErrorKind}
use Rattle.std.specs.declared.io.ErrorKind.TheVariants as kind
use Rattle.outside_folder.specs.Calls.{Leaves}
use Rattle.outside_folder.specs.Files.{Bytes, Files}
use Rattle.fallible_values.specs.declared.memory.NoMemory.{NoMemory}
use Rattle.modern_files.specs.Output.{Counted, Writes, WritesUsage}
use Rattle.modern_files.specs.Status.{number_of_status}
use Rattle.modern_files.specs.declared.status.Status.{Status}
use Rattle.modern_files.specs.declared.status.Status.TheVariants as status
use Rattle.modern_headers.specs.Failure.{IsLineWritten, SinkState, failure_of}

abbrev pub sink_state : {S : Type 0} → (S → Option Bytes) → (S → ℕ) → S → SinkState
sink_state bytes faults sink = record { bytes = bytes sink; faults = faults sink }

-- the words after the program's name
abbrev pub words_of : List Bytes → List Bytes
words_of [] = []
words_of (name ∷ words) = words

-- The end of one run over a folder. What it writes is that of the lists and of the files, and no failure is hidden.
pub record IsRunOver {F : Type 0} (tells : F → Option Files) (faults : F → ℕ) (lists : List Bytes) (folder after : F) (old new : SinkState) (end : Status) : Type 0 where
  pub writes : (files : Files) → tells folder ≡ Some files → Writes files lists old.bytes new.bytes end
  pub usage_alone : end ≡ status.Usage → lists ≡ []
  pub reads : Leaves tells faults folder after (end ≡ status.ReadFault)
  pub counted : Counted old.faults new.faults (end ≡ status.WriteFault)

-- out of memory, with nothing written
abbrev pub IsOutOfMemory : SinkState → SinkState → Status → Type 0
IsOutOfMemory old new end = (end ≡ status.NoMemory) × (new ≡ old)

-- the end of a run over a folder; without a folder, out of memory
abbrev pub IsEndOver : {F : Type 0} → (F → Option Files) → (F → ℕ) → List Bytes → Result F NoMemory → Result F NoMemory → SinkState → SinkState → Status → Type 0
IsEndOver tells faults lists (Ok folder) (Ok after) old new end = IsRunOver tells faults lists folder after old new end
IsEndOver tells faults lists (Ok folder) (Err none) old new end = ⊥
IsEndOver tells faults lists (Err none) after old new end = (after ≡ Err none) × IsOutOfMemory old new end

-- the end if the system can't give the words as text: out of memory, or the usage line is written
pub record IsEndWithoutWords (why : ErrorKind) (old new : SinkState) (end : Status) : Type 0 where
  pub no_memory : why ≡ kind.OutOfMemory → IsOutOfMemory old new end
  pub no_text : why ≢ kind.OutOfMemory → WritesUsage old.bytes new.bytes end
  pub counted : Counted old.faults new.faults (end ≡ status.WriteFault)

-- the end, by the arguments that the system gave or its error
abbrev pub IsEnd : {A F : Type 0} → (A → List Bytes) → (F → Option Files) → (F → ℕ) → Result A Error → Result F NoMemory → Result F NoMemory
    → SinkState → SinkState → Status → Type 0
IsEnd texts tells faults (Ok args) folder after old new end = IsEndOver tells faults (words_of (texts args)) folder after old new end
IsEnd texts tells faults (Err error) folder after old new end = (after ≡ folder) × IsEndWithoutWords (error_kind error) old new end

-- The exit status and the line on standard error are those of the end.
pub record IsExit {A F : Type 0} (texts : A → List Bytes) (tells : F → Option Files) (faults : F → ℕ) (args : Result A Error) (folder after : Result F NoMemory)
    (old new said_before said : SinkState) (number : ℕ) : Type 0 where
  pub end : Status
  pub number_is : number ≡ number_of_status end
  pub ends : IsEnd texts tells faults args folder after old new end
  pub line : IsLineWritten (failure_of end) said_before said
