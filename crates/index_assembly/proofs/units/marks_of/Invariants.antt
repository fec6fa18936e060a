-- the marks so far
use Rattle.std.proofs.Common.{◌≡◌, map, take}
use Rattle.index_assembly.specs.Lacks.{lacks_one}
use Rattle.index_assembly.proofs.units.marks_of.Given as goal

abbrev pub invariant-loop-unit : goal.invariant-loop-unit
invariant-loop-unit l = l.marks ≡ map (lacks_one l.units) (take l.unit-index l.units)
