use Rattle.std.proofs.Common.{take}
use Rattle.unit_record.specs.Fields.{top_fields}
use Rattle.unit_record.proofs.Steps.{Tell}
use Rattle.unit_record.proofs.read.contents_of.Given as goal

abbrev pub invariant-loop-item : goal.invariant-loop-item
invariant-loop-item l = Tell (top_fields (take l.item-index l.items)) l.contents
