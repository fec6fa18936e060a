use Rattle.complete_plan.proofs.Whole.{have-lines}
use Rattle.complete_plan.proofs.laws.every_node_has_a_line.Goals as goal

pub returns : goal.returns
returns c = have-lines c.listed_as_whole.ensures.together c.problem_is_lawful.ensures
