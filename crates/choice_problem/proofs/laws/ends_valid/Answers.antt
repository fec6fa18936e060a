-- with any guide, a search without a limit finds a complete, valid assignment, or none exists
use Rattle.choice_problem.proofs.SearchEnds.{ends-valid}
use Rattle.choice_problem.proofs.laws.ends_valid.Goals as goal

pub returns : goal.returns
returns c p guide lawful is = ends-valid p lawful guide is
