-- the ranks so far, and the rest
use Rattle.std.proofs.Common.{◌≡◌, drop, length, replicate}
use Rattle.elaborate.specs.Ranks.{ranks_by}
use Rattle.elaborate.proofs.ranks.ranks_of.Given as goal

abbrev pub invariant-loop-rank : goal.invariant-loop-rank
invariant-loop-rank l = ranks_by l.ranks.items l.rank (drop l.rank l.all) ≡ ranks_by (replicate (length l.reached.set.keys) 0) 0 l.all
