use Rattle.std.proofs.Common.{◌≡◌, take}
use Rattle.description.specs.Description.{warnings}
use Rattle.description.proofs.read.warnings.Given as goal

abbrev pub invariant-loop-section : goal.invariant-loop-section
invariant-loop-section l = l.lines ≡ warnings (take l.section-index l.sections)
