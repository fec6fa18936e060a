-- a search without a limit finds the first complete, valid assignment, or none exists
use Rattle.choice_problem.proofs.SearchEnds.{ends-right}
use Rattle.choice_problem.proofs.laws.ends_right.Goals as goal

pub returns : goal.returns
returns c = ends-right
