use Rattle.std.proofs.Common.{◌≡◌, length}
use Rattle.plan_types.specs.declared.range.Range.{size-Range}
use Rattle.plan_types.specs.Range.{rebuilt}
use Rattle.plan_types.proofs.range.Range.+copy.Given as goal

abbrev pub decreases-copy : goal.decreases-copy
decreases-copy l = size-Range l.self.now

-- the copy so far and the pending operands make the whole
abbrev pub invariant-loop-joined : goal.invariant-loop-joined
invariant-loop-joined l = rebuilt l.waiting.items l.copied ≡ l.self

abbrev pub decreases-loop-joined : goal.decreases-loop-joined
decreases-loop-joined l = length l.waiting.items
