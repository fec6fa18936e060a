-- any order names the same variables
use Rattle.choice_problem.proofs.AnyOrder.{any-order}
use Rattle.choice_problem.proofs.laws.any_order_names_alike.Goals as goal

pub returns : goal.returns
returns c = any-order
