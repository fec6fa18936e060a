use Rattle.std.proofs.Common.{◌≡◌, ◌≤◌}
use Rattle.plan_types.specs.declared.range.Range.{size-Range}
use Rattle.plan_types.specs.Members.{members}
use Rattle.plan_types.proofs.range.Range.+has.Given as goal

-- the rest decides membership, and is no larger than the whole
abbrev pub invariant-loop-range : goal.invariant-loop-range
invariant-loop-range l = (members l.range l.v ≡ members l.self l.v) × (size-Range l.range ≤ size-Range l.self)
