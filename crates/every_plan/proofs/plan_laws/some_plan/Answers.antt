use Rattle.every_plan.proofs.Plans as proof
use Rattle.every_plan.proofs.plan_laws.some_plan.Goals as goal

pub returns : goal.returns
returns c selection = proof.some_plan selection
