-- the copies so far
use Rattle.std.proofs.Common.{◌≡◌, take}
use Rattle.solver_index.proofs.preferred.ranges_for.Given as goal

abbrev pub invariant-loop-range : goal.invariant-loop-range
invariant-loop-range l = l.copies ≡ take l.range-index l.ranges
