-- a lawful problem is lawful as a general one
use Rattle.choice_problem.proofs.TrailLemmas.{general-lawful}
use Rattle.choice_problem.proofs.laws.general_is_lawful.Goals as goal

pub returns : goal.returns
returns c = general-lawful
