-- The status of a run, and its number.
use Rattle.std.specs.Prelude.{ℕ}
use Rattle.plan_command.specs.declared.answer.Answer.{Answer}
use Rattle.plan_command.specs.declared.answer.Answer.TheVariants as answer
use Rattle.plan_command.specs.declared.status.Status.{Status}
use Rattle.plan_command.specs.declared.status.Status.TheVariants.{Planned, NoPlan, GaveUp, Refused, ReadFault, WriteFault, NoMemory, Usage}

-- the status of a run that wrote its whole output, by the output's answer
abbrev pub status_of : Answer → Status
status_of answer.Planned = Planned
status_of answer.NoPlan = NoPlan
status_of answer.GaveUp = GaveUp
status_of answer.Refused = Refused
status_of answer.Usage = Usage

-- the number of a status
abbrev pub number_of_status : Status → ℕ
number_of_status Planned = 0
number_of_status NoPlan = 1
number_of_status GaveUp = 2
number_of_status Refused = 3
number_of_status ReadFault = 4
number_of_status WriteFault = 5
number_of_status NoMemory = 6
number_of_status Usage = 64
