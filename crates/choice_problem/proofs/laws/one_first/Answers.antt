-- there is one first trail
use Rattle.choice_problem.proofs.FirstAssignment.{one-first}
use Rattle.choice_problem.proofs.laws.one_first.Goals as goal

pub returns : goal.returns
returns c g A B lawful = one-first g lawful A B
