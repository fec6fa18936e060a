-- each variable so far is listed once
use Rattle.std.proofs.Common.{◌≡◌, length}
use Rattle.choice_problem.specs.Written.{are_listed_once}
use Rattle.choice_problem.proofs.written.listed_once.Given as goal

abbrev pub invariant-loop-rest : goal.invariant-loop-rest
invariant-loop-rest l = are_listed_once l.variables ≡ are_listed_once l.rest

abbrev pub decreases-loop-rest : goal.decreases-loop-rest
decreases-loop-rest l = length l.rest
