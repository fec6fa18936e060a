-- the needs so far
use Rattle.std.proofs.Common.{◌≡◌, map, take}
use Rattle.index_assembly.specs.Lacks.{needed_places}
use Rattle.index_assembly.proofs.units.needs_of.Given as goal

abbrev pub invariant-loop-unit : goal.invariant-loop-unit
invariant-loop-unit l = l.needs ≡ map (needed_places l.units) (take l.unit-index l.units)
