use Rattle.cabal_problem.proofs.Whole.{in-groups, yes-together}
use Rattle.cabal_problem.proofs.laws.listed_as_whole.Goals as goal

pub returns-clause-groups : goal.returns-clause-groups
returns-clause-groups c env index project names orders sound numbers = in-groups env index project names orders sound numbers (c.counts_as_its_condition.ensures env)

pub returns-clause-together : goal.returns-clause-together
returns-clause-together c env index project names orders sound numbers = yes-together env index project names orders sound numbers (c.counts_as_its_condition.ensures env)
