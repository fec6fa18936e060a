use Rattle.plan_jobs.proofs.Histories.{after_needs}
use Rattle.plan_jobs.proofs.laws.starts_after_needs.Goals as goal

pub returns : goal.returns
returns c = λ nodes slots events h. after_needs nodes slots events h
