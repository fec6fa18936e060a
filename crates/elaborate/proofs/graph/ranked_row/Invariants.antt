-- the ranks so far
use Rattle.std.proofs.Common.{◌≡◌, map, take}
use Rattle.elaborate.specs.Ranks.{rank_of}
use Rattle.elaborate.proofs.graph.ranked_row.Given as goal

abbrev pub invariant-loop-need : goal.invariant-loop-need
invariant-loop-need l = l.row ≡ map (rank_of l.ranks) (take l.need-index l.need-items)
