use Rattle.cabal_problem.proofs.OneProblem.{one_made}
use Rattle.cabal_problem.proofs.laws.one_problem.Goals as goal

pub returns : goal.returns
returns c index project names others p q is also = one_made index project names others p q c.one_order.ensures is also
