use Rattle.std.proofs.Common.{take}
use Rattle.broken_units.proofs.Marked.{Marks}
use Rattle.broken_units.proofs.marks.mark_all.Given as goal

abbrev pub invariant-loop-node : goal.invariant-loop-node
invariant-loop-node l = Marks (take l.node-index l.nodes) l.fn.led l.led l.fn.waiting l.waiting
