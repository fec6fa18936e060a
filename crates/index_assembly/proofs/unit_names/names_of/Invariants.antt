-- the names so far
use Rattle.std.proofs.Common.{◌≡◌, map, take}
use Rattle.index_files.specs.Units.{unit_name}
use Rattle.index_assembly.proofs.unit_names.names_of.Given as goal

abbrev pub invariant-loop-unit : goal.invariant-loop-unit
invariant-loop-unit l = l.names ≡ map unit_name (take l.unit-index l.units)
