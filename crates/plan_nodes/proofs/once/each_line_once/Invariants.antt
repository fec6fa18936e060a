-- the nodes so far, and the later ones
use Rattle.std.proofs.Common.{◌≡◌, fold}
use Rattle.std.specs.Vec.Iter.{into_iter_items}
use Rattle.indexmap.specs.IndexSet.{insert_key}
use Rattle.plan_nodes.specs.Once.{each_line_once, same_line}
use Rattle.plan_nodes.specs.Seen.{Knows}
use Rattle.plan_nodes.proofs.once.each_line_once.Given as goal

abbrev pub invariant-loop-node : goal.invariant-loop-node
invariant-loop-node l = record {
  seen : Knows l.seen l.kept;
  kept : fold (insert_key same_line) l.kept (into_iter_items l.node-iterator) ≡ each_line_once l.fn.nodes;
}
