use Rattle.std.proofs.Common.{◌≡◌, [], drop}
use Rattle.description.proofs.RepeatedNames.{repeated_from}
use Rattle.description.specs.FaultOrder.{earlier, first}
use Rattle.description.proofs.faults.first_repeated.Given as goal

-- the first fault so far and the first one of the rest give the first of all
abbrev pub invariant-loop-section : goal.invariant-loop-section
invariant-loop-section l = earlier l.found (first (repeated_from l.class l.before (drop l.section-index l.sections))) ≡ first (repeated_from l.class [] l.sections)
