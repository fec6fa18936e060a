use Rattle.std.proofs.Common.{◌≡◌, flat_map, take}
use Rattle.older_fields.specs.NameMaps.{firsts}
use Rattle.older_rules.specs.Tops.{executable_tool}
use Rattle.older_rules.proofs.tops.own_tools.Given as goal

abbrev pub invariant-loop-item : goal.invariant-loop-item
invariant-loop-item l = l.tools.entries ≡ firsts (flat_map (executable_tool l.owner l.names.entries) (take l.item-index l.items))
