use Rattle.plan_jobs.proofs.Histories.{once}
use Rattle.plan_jobs.proofs.laws.starts_once.Goals as goal

pub returns : goal.returns
returns c = λ nodes slots events h. once nodes slots events h
