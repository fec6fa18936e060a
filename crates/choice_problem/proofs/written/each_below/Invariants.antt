-- each number from n on is there
use Rattle.std.proofs.Common.{◌≡◌, length}
use Rattle.choice_problem.specs.Written.{has_each_below}
use Rattle.choice_problem.proofs.written.each_below.Given as goal

abbrev pub invariant-loop-n : goal.invariant-loop-n
invariant-loop-n l = has_each_below (length l.values) l.values ≡ has_each_below l.n l.values

abbrev pub decreases-loop-n : goal.decreases-loop-n
decreases-loop-n l = l.n
