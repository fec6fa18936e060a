use Rattle.std.proofs.Common.{◌≤◌}
use Rattle.plan_types.specs.declared.range.Range.{size-Range}
use Rattle.plan_types.proofs.range.Range.+drop.Given as goal

-- the rest is no larger than the whole
abbrev pub invariant-loop-self : goal.invariant-loop-self
invariant-loop-self l = size-Range l.self ≤ size-Range l.initial.self
