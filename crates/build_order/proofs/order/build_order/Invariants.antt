use Rattle.std.proofs.Common.{not}
use Rattle.std.specs.Prelude.{count_by}
use Rattle.build_order.specs.Building.{IsSound, NoNode}
use Rattle.build_order.proofs.order.build_order.Given as goal

abbrev pub invariant-loop-node : goal.invariant-loop-node
invariant-loop-node l = IsSound l.needs NoNode l.building

abbrev pub decreases-loop-node : goal.decreases-loop-node
decreases-loop-node l = count_by not l.building.placed
