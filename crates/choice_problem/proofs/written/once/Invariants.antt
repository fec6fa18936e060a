-- each value so far stands once
use Rattle.std.proofs.Common.{◌≡◌, length}
use Rattle.choice_problem.specs.Written.{is_once}
use Rattle.choice_problem.proofs.written.once.Given as goal

abbrev pub invariant-loop-rest : goal.invariant-loop-rest
invariant-loop-rest l = is_once l.values ≡ is_once l.rest

abbrev pub decreases-loop-rest : goal.decreases-loop-rest
decreases-loop-rest l = length l.rest
