-- The line on standard error after a run.
use Rattle.std.specs.Prelude.{◌≡◌, ◌⊎◌, ◌∷◌, [], ◌++◌, codes, Option, Some, None}
use Rattle.outside_folder.specs.Faults.{Rose}
use Rattle.outside_folder.specs.Sink.{Appends, AppendsPrefix}
use Rattle.cabal_plan.specs.Taken.{SinkState}
use Rattle.outside_folder.specs.Files.{Bytes}
use Rattle.plan_command.specs.declared.status.Status.{Status}
use Rattle.plan_command.specs.declared.status.Status.TheVariants.{Planned, NoPlan, GaveUp, Refused, ReadFault, WriteFault, NoMemory, Usage}

-- the line of a failure; a status with an output has none
abbrev pub failure_of : Status → Option Bytes
failure_of Planned = None
failure_of NoPlan = None
failure_of GaveUp = None
failure_of Refused = None
failure_of ReadFault = Some (codes "cabal-plan: a file or folder could not be read" ++ 10 ∷ [])
failure_of WriteFault = Some (codes "cabal-plan: the output could not be written" ++ 10 ∷ [])
failure_of NoMemory = Some (codes "cabal-plan: out of memory" ++ 10 ∷ [])
failure_of Usage = None

-- the line was written, or its write failed after a prefix; without a line nothing was written
abbrev pub IsLineWritten : Option Bytes → SinkState → SinkState → Type 0
IsLineWritten None old new = new ≡ old
IsLineWritten (Some line) old new = Appends old.bytes new.bytes line ⊎ (Rose old.faults new.faults × AppendsPrefix old.bytes new.bytes line)
