use Rattle.std.proofs.Common.{◌≡◌}
use Rattle.plan_types.specs.Range.{rebuilt}
use Rattle.plan_types.proofs.range.copy_first.Given as goal

-- the rest of the left side and the pending operands make the whole
abbrev pub invariant-loop-left : goal.invariant-loop-left
invariant-loop-left l = rebuilt l.waiting.items l.left ≡ l.range
