use Rattle.plan_search.proofs.Right.{found-one}
use Rattle.plan_search.proofs.laws.one_finding.Goals as goal

pub returns : goal.returns
returns c = found-one c.one_problem.ensures
