-- the numbers so far
use Rattle.std.proofs.Common.{◌≡◌}
use Rattle.solver_index.specs.Places.{rising}
use Rattle.solver_index.proofs.places.rising.Given as goal

abbrev pub invariant-loop-number : goal.invariant-loop-number
invariant-loop-number l = l.numbers ≡ rising l.number
