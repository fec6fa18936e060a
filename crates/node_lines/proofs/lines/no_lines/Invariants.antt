-- no line so far
use Rattle.std.proofs.Common.{◌≡◌, replicate, None}
use Rattle.node_lines.proofs.lines.no_lines.Given as goal

abbrev pub invariant-loop : goal.invariant-loop
invariant-loop l = l.lines ≡ replicate l.counter None
