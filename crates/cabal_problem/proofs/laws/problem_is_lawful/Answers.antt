use Rattle.std.proofs.Common.{subst, sym}
use Rattle.choice_problem.specs.Problem.{Lawful, Problem}
use Rattle.cabal_problem.specs.Laws.{cabal_lawful}
use Rattle.cabal_problem.proofs.NewProblem.{made-lawful}
use Rattle.cabal_problem.proofs.laws.problem_is_lawful.Goals as goal

pub returns : goal.returns
returns c env index project names p sound extra is =
    subst (λ (q : Problem). Lawful q) (sym is.problem_is)
    (cabal_lawful index.packages project names is.orders (made-lawful env index project names is.orders sound extra is.numbers is.orders_are))
