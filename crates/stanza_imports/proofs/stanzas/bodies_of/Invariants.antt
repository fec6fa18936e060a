use Rattle.std.proofs.Common.{take}
use Rattle.stanza_imports.specs.Standing.{AreBodiesSoFar}
use Rattle.stanza_imports.proofs.stanzas.bodies_of.Given as goal

abbrev pub invariant-loop-section : goal.invariant-loop-section
invariant-loop-section l = AreBodiesSoFar (take l.section-index l.sections) l.bodies
