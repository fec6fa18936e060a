-- a search tries at most as many values as one without backjumps
use Rattle.choice_problem.proofs.Tries.{tries-most}
use Rattle.choice_problem.proofs.laws.plain_count_is_most.Goals as goal

pub returns : goal.returns
returns c p limit lawful = tries-most p lawful limit
