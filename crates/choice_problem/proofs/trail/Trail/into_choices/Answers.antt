-- each choice is of a variable that those before it leave open
use Rattle.choice_problem.proofs.TrailEnds.{new-different}
use Rattle.choice_problem.proofs.trail.Trail.into_choices.Goals as goal

pub returns-clause-different : goal.returns-clause-different
returns-clause-different c = new-different c.self.invariant.new
