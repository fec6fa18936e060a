use Rattle.plan_jobs.proofs.Histories.{all_ended}
use Rattle.plan_jobs.proofs.laws.ends_at_rest.Goals as goal

pub returns : goal.returns
returns c = λ nodes events rest place lt. all_ended nodes events rest place lt
