use Rattle.std.proofs.Common.{◌+◌, length}
use Rattle.version_range.proofs.RisingEnds.{Merges}
use Rattle.version_range.proofs.merge.merged.Given as goal

abbrev pub invariant-loop-least : goal.invariant-loop-least
invariant-loop-least l = Merges l.joint l.fn.first.items l.fn.second.items l.ends l.in_first l.in_second l.rest_first.items l.rest_second.items

abbrev pub decreases-loop-least : goal.decreases-loop-least
decreases-loop-least l = length l.rest_first.items + length l.rest_second.items
