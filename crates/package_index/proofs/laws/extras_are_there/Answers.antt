use Rattle.package_index.proofs.Sound.{extras-marked, extras-there}
use Rattle.package_index.proofs.laws.extras_are_there.Goals as goal

pub returns-clause-has : goal.returns-clause-has
returns-clause-has c env places extra readings index form made = extras-there extra readings index made env places form

pub returns-clause-marked : goal.returns-clause-marked
returns-clause-marked c extra readings index made = extras-marked extra readings index made
