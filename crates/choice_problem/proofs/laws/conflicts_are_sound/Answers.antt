-- the set of a conflict admits none
use Rattle.choice_problem.proofs.ConflictLemmas.{conflicts-sound}
use Rattle.choice_problem.proofs.laws.conflicts_are_sound.Goals as goal

pub returns : goal.returns
returns c = conflicts-sound
