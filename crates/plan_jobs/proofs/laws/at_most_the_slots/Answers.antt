use Rattle.plan_jobs.proofs.Histories.{few_run}
use Rattle.plan_jobs.proofs.laws.at_most_the_slots.Goals as goal

pub returns : goal.returns
returns c = λ nodes slots events h. few_run nodes slots events h
