-- the lines so far
use Rattle.std.proofs.Common.{◌≡◌, [], take}
use Rattle.std.specs.Prelude.{fold}
use Rattle.plan_nodes.specs.Seen.{with_line}
use Rattle.plan_nodes.proofs.once.lines_of.Given as goal

abbrev pub invariant-loop-node : goal.invariant-loop-node
invariant-loop-node l = l.lines.keys ≡ fold with_line [] (take l.node-index l.fn.kept)
