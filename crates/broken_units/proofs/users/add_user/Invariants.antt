use Rattle.std.proofs.Common.{take}
use Rattle.broken_units.proofs.Table.{With}
use Rattle.broken_units.proofs.users.add_user.Given as goal

abbrev pub invariant-loop-node : goal.invariant-loop-node
invariant-loop-node l = With l.fn.users.items l.user l.nodes l.users.items (take l.node-index l.nodes)
