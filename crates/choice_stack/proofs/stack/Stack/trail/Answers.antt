-- each choice has its mark, and is of a variable without a value before it
use Rattle.choice_problem.proofs.TrailEnds.{new-different}
use Rattle.choice_stack.proofs.StackLemmas.{marks-new}
use Rattle.choice_stack.proofs.stack.Stack.trail.Goals as goal

pub returns-clause-different : goal.returns-clause-different
returns-clause-different c = new-different (marks-new c.self.invariant.levels)
