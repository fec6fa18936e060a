-- the rows so far
use Rattle.std.proofs.Common.{◌≡◌, map, take}
use Rattle.elaborate.specs.Ranks.{ranked_row}
use Rattle.elaborate.proofs.graph.graph_of.Given as goal

abbrev pub invariant-loop-placed : goal.invariant-loop-placed
invariant-loop-placed l = l.graph ≡ map (ranked_row l.places l.ranks) (take l.placed-index l.all)
