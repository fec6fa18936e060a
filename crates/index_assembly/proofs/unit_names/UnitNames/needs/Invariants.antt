-- the names so far
use Rattle.std.proofs.Common.{◌≡◌, List, take}
use Rattle.std.specs.Prelude.{flat_map}
use Rattle.index_files.specs.Units.{known_name}
use Rattle.index_files.specs.declared.unit.Unit.{Unit}
use Rattle.index_assembly.specs.UnitNames.{Knows}
use Rattle.index_assembly.proofs.unit_names.UnitNames.needs.Given as goal

abbrev pub invariant-loop-id : goal.invariant-loop-id
invariant-loop-id l = (units : List Unit) → Knows units l.fn.self → l.names ≡ flat_map (known_name units) (take l.id-index l.fn.unit.record_of.depends)
