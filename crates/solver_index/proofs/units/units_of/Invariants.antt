-- the packages so far
use Rattle.solver_index.specs.Units.{AreUnits}
use Rattle.solver_index.proofs.units.units_of.Given as goal

abbrev pub invariant-loop-found : goal.invariant-loop-found
invariant-loop-found l = AreUnits l.packages l.found-index l.units
