-- the lines so far, and those that are left
use Rattle.std.proofs.Common.{◌≡◌, map, take}
use Rattle.elaborate.specs.Plan.{line_at}
use Rattle.elaborate.specs.Telling.{lined_of}
use Rattle.elaborate.proofs.LinesLeft.{AreLeft}
use Rattle.elaborate.proofs.moves.lines_at.Given as goal

abbrev pub invariant-loop-k : goal.invariant-loop-k
invariant-loop-k l = record {
  lines : l.lines ≡ map (line_at (map lined_of l.fn.all.items)) (take l.k l.places);
  left : AreLeft (map lined_of l.fn.all.items) (take l.k l.places) l.left.items;
}
