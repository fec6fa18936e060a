use Rattle.elaborate.proofs.Unique.{one-plan}
use Rattle.elaborate.proofs.laws.one_plan.Goals as goal

pub returns : goal.returns
returns c = one-plan
