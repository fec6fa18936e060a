-- the places so far
use Rattle.std.proofs.Common.{◌≡◌, List, take}
use Rattle.std.specs.Prelude.{flat_map}
use Rattle.index_files.specs.Units.{place_of}
use Rattle.index_files.specs.declared.unit.Unit.{Unit}
use Rattle.index_assembly.specs.UnitNames.{Knows}
use Rattle.index_assembly.specs.Lacks.{places_in}
use Rattle.index_assembly.proofs.unit_names.UnitNames.places.Given as goal

abbrev pub invariant-loop-id : goal.invariant-loop-id
invariant-loop-id l = (units : List Unit) → Knows units l.fn.self → l.places ≡ flat_map (λ id. places_in (place_of units id)) (take l.id-index l.fn.unit.record_of.depends)
