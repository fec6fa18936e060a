use Rattle.std.proofs.Common.{◌≡◌, [], drop}
use Rattle.description.proofs.RepeatedNames.{unknown_from}
use Rattle.description.specs.FaultOrder.{earlier, first}
use Rattle.description.proofs.faults.first_unknown_stanza.Given as goal

-- the first fault so far and the first one of the rest give the first of all
abbrev pub invariant-loop-section : goal.invariant-loop-section
invariant-loop-section l = earlier l.found (first (unknown_from l.known (drop l.section-index l.sections))) ≡ first (unknown_from [] l.sections)
