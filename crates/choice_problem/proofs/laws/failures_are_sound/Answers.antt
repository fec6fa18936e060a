-- the set with which a search fails admits none
use Rattle.choice_problem.proofs.FailureSets.{failures-sound}
use Rattle.choice_problem.proofs.laws.failures_are_sound.Goals as goal

pub returns : goal.returns
returns c = failures-sound
