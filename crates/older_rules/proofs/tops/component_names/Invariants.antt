use Rattle.std.proofs.Common.{◌≡◌, flat_map, take}
use Rattle.older_rules.specs.Tops.{component_name}
use Rattle.older_rules.proofs.tops.component_names.Given as goal

abbrev pub invariant-loop-item : goal.invariant-loop-item
invariant-loop-item l = l.names ≡ flat_map component_name (take l.item-index l.items)
