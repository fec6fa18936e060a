-- the nodes so far, and the rest
use Rattle.std.proofs.Common.{◌≡◌, ◌++◌, ◌+◌, drop, length}
use Rattle.std.specs.Vec.Iter.{into_iter_items}
use Rattle.elaborate.specs.Telling.{placed_from, placed_lines}
use Rattle.elaborate.proofs.told.placed_lines.Given as goal

abbrev pub invariant-loop-line : goal.invariant-loop-line
invariant-loop-line l = record {
  count : length (into_iter_items l.line-iterator) + l.place ≡ length l.nodes;
  so_far : l.all.items ++ placed_from l.place (drop l.place l.nodes) (into_iter_items l.line-iterator) ≡ placed_lines l.nodes l.fn.lines;
}
