use Rattle.std.proofs.Common.{◌≡◌, ◌++◌, flat_map, take}
use Rattle.older_fields.specs.Flat.{field_of}
use Rattle.older_fields.proofs.flat_file.push_fields_of.Given as goal

abbrev pub invariant-loop-item : goal.invariant-loop-item
invariant-loop-item l = l.out ≡ l.initial.out ++ flat_map (field_of l.kind) (take l.item-index l.items)
