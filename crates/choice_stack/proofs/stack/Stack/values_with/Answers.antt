use Rattle.std.proofs.Common.{◌∙◌, ap}
use Rattle.choice_problem.specs.Trail.{value_in}
use Rattle.choice_stack.specs.View.{View}
use Rattle.choice_stack.proofs.stack.Stack.values_with.Goals as goal

pub with-requires : goal.with-requires
with-requires c = ap (λ (x : View). value_in x.trail c.args.c.var) c.self.view_is ∙ c.requires
