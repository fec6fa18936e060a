-- an answer with a limit is the one without, unless the limit was reached
use Rattle.choice_problem.proofs.SearchLimits.{limit-gives-up}
use Rattle.choice_problem.proofs.laws.limit_only_gives_up.Goals as goal

pub returns : goal.returns
returns c = limit-gives-up
