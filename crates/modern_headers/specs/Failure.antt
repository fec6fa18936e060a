-- The line on standard error after a run.
use Rattle.std.specs.Prelude.{◌≡◌, ◌⊎◌, ℕ, codes, Option, Some, None}
use Rattle.outside_folder.specs.Faults.{Rose}
use Rattle.outside_folder.specs.Files.{Bytes}
use Rattle.outside_folder.specs.Sink.{Appends, AppendsPrefix}
use Rattle.modern_files.specs.declared.status.Status.{Status}
use Rattle.modern_files.specs.declared.status.Status.TheVariants.{Written, Refused, ReadFault, WriteFault, NoMemory, Usage}

-- the bytes of a sink, if it is observable, and its count of faults
pub record SinkState : Type 0 where
  pub bytes : Option Bytes
  pub faults : ℕ

-- the line of a failure; a status with an output has none
abbrev pub failure_of : Status → Option Bytes
failure_of Written = None
failure_of Refused = None
failure_of ReadFault = Some (codes "modern-headers: a file could not be read\n")
failure_of WriteFault = Some (codes "modern-headers: the output could not be written\n")
failure_of NoMemory = Some (codes "modern-headers: out of memory\n")
failure_of Usage = None

-- the line was written, or its write failed after a prefix; without a line nothing was written
abbrev pub IsLineWritten : Option Bytes → SinkState → SinkState → Type 0
IsLineWritten None old new = new ≡ old
IsLineWritten (Some line) old new = Appends old.bytes new.bytes line ⊎ (Rose old.faults new.faults × AppendsPrefix old.bytes new.bytes line)
