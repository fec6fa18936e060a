-- the names of the units so far
use Rattle.std.proofs.Common.{◌≡◌, take}
use Rattle.std.specs.Prelude.{flat_map}
use Rattle.index_files.specs.Units.{known_name}
use Rattle.index_files.proofs.needed_names.needed_names.Given as goal

abbrev pub invariant-loop-id : goal.invariant-loop-id
invariant-loop-id l = l.names ≡ flat_map (known_name l.units) (take l.id-index l.fn.unit.record_of.depends)
