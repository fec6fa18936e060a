use Rattle.plan_jobs.proofs.Histories.{keeps_held}
use Rattle.plan_jobs.proofs.laws.stays_held.Goals as goal

pub returns : goal.returns
returns c = λ nodes slots events h. keeps_held nodes slots events h
