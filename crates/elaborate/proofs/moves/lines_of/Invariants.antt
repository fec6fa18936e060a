-- the lines so far, and the later ones
use Rattle.std.proofs.Common.{◌≡◌, ◌++◌, map}
use Rattle.std.specs.Vec.Iter.{into_iter_items}
use Rattle.elaborate.specs.Telling.{line_of, lined_of}
use Rattle.elaborate.proofs.moves.lines_of.Given as goal

abbrev pub invariant-loop-placed : goal.invariant-loop-placed
invariant-loop-placed l = l.left.items ++ map line_of (map lined_of (into_iter_items l.placed-iterator)) ≡ map line_of (map lined_of l.fn.all.items)
