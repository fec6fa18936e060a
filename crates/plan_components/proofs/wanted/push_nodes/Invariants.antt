-- the nodes so far
use Rattle.std.proofs.Common.{◌≡◌, ◌++◌, map, take}
use Rattle.qualified_goals.specs.declared.variable.Qual.TheVariants.{Top}
use Rattle.plan_components.specs.Wanted.{node_of}
use Rattle.plan_components.proofs.wanted.push_nodes.Given as goal

abbrev pub invariant-loop-piece : goal.invariant-loop-piece
invariant-loop-piece l = l.nodes ≡ l.fn.nodes ++ map (node_of Top l.«package») (take l.piece-index l.pieces)
