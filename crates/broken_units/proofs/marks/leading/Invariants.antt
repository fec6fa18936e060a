use Rattle.std.proofs.Common.{◌+◌, not, length}
use Rattle.std.specs.Prelude.{count_by}
use Rattle.broken_units.proofs.Search.{Search}
use Rattle.broken_units.proofs.marks.leading.Given as goal

abbrev pub invariant-loop-node : goal.invariant-loop-node
invariant-loop-node l = Search l.needs l.marked l.led l.waiting

abbrev pub decreases-loop-node : goal.decreases-loop-node
decreases-loop-node l = count_by not l.led + length l.waiting
