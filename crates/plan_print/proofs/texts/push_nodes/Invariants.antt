-- the lines so far
use Rattle.std.proofs.Common.{◌≡◌, ◌++◌, take}
use Rattle.std.specs.List.{flat_map}
use Rattle.plan_nodes.specs.Line.{node_line}
use Rattle.plan_print.proofs.texts.push_nodes.Given as goal

abbrev pub invariant-loop-node : goal.invariant-loop-node
invariant-loop-node l = l.text ≡ l.fn.text ++ flat_map node_line (take l.node-index l.nodes)
