-- problems whose demands are Yes together are one
use Rattle.choice_problem.proofs.EquivalentProblems.{are-one}
use Rattle.choice_problem.proofs.laws.valid_alike.Goals as goal

pub returns : goal.returns
returns c = are-one
