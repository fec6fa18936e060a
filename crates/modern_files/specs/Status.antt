-- The status of a run, and its number.
use Rattle.std.specs.Prelude.{ℕ, Result, Ok, Err}
use Rattle.outside_folder.specs.declared.calls.Trouble.{Trouble}
use Rattle.outside_folder.specs.declared.calls.Trouble.TheVariants as trouble
use Rattle.modern_files.specs.declared.status.Status.{Status}
use Rattle.modern_files.specs.declared.status.Status.TheVariants.{Written, Refused, ReadFault, WriteFault, NoMemory, Usage}
use Rattle.modern_files.specs.declared.status.Stop.{Stop}
use Rattle.modern_files.specs.declared.status.Stop.TheVariants as stop

-- the number of a status
abbrev pub number_of_status : Status → ℕ
number_of_status Written = 0
number_of_status Refused = 3
number_of_status ReadFault = 4
number_of_status WriteFault = 5
number_of_status NoMemory = 6
number_of_status Usage = 64

abbrev pub stop_of_trouble : Trouble → Stop
stop_of_trouble trouble.Failed = stop.Unread
stop_of_trouble trouble.NoMemory = stop.NoMemory

-- the status of a run that wrote all, or stopped
abbrev pub status_of : Status → Result Unit Stop → Status
status_of whole (Ok all) = whole
status_of whole (Err stop.Unread) = ReadFault
status_of whole (Err stop.Unwritten) = WriteFault
status_of whole (Err stop.NoMemory) = NoMemory
