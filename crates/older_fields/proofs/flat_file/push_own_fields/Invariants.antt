use Rattle.std.proofs.Common.{◌≡◌, ◌++◌, flat_map, take}
use Rattle.older_fields.specs.Flat.{own_field}
use Rattle.older_fields.proofs.flat_file.push_own_fields.Given as goal

abbrev pub invariant-loop-item : goal.invariant-loop-item
invariant-loop-item l = l.out ≡ l.initial.out ++ flat_map own_field (take l.item-index l.items)
