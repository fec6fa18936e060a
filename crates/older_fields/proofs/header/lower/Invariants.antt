use Rattle.std.proofs.Common.{◌≡◌}
use Rattle.plan_types.specs.declared.range.Range.{size-Range}
use Rattle.older_fields.specs.Headers.{lower}
use Rattle.older_fields.proofs.header.lower.Given as goal

-- the rest has the bound
abbrev pub invariant-loop-range : goal.invariant-loop-range
invariant-loop-range l = lower l.range ≡ lower l.fn.range

abbrev pub decreases-loop-range : goal.decreases-loop-range
decreases-loop-range l = size-Range l.range
