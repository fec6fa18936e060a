use Rattle.choice_problem.specs.General.{general}
use Rattle.cabal_problem.specs.Laws.{cabal_lawful}
use Rattle.cabal_problem.specs.Problem.{problem_of}
use Rattle.cabal_problem.specs.WholeDemands.{whole_problem}
use Rattle.cabal_problem.proofs.NewProblem.{made-lawful}
use Rattle.cabal_problem.proofs.WholeLaws.{whole-lawful}
use Rattle.cabal_problem.proofs.laws.valid_as_whole.Goals as goal

pub returns : goal.returns
returns c env index project names orders sound numbers made extra =
    let lawful = cabal_lawful index.packages project names orders (made-lawful env index project names orders sound extra numbers made) in
    let p = problem_of index.packages project names orders in
    c.valid_alike.ensures (whole_problem env index.packages project names orders) (general p)
    (whole-lawful env index project names orders sound numbers lawful) (c.general_is_lawful.ensures p lawful)
    (c.listed_as_whole.ensures.together env index project names orders sound numbers)
