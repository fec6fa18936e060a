use Rattle.plan_jobs.proofs.Histories.{none_held_starts}
use Rattle.plan_jobs.proofs.laws.starts_none_held.Goals as goal

pub returns : goal.returns
returns c = λ nodes slots events h. none_held_starts nodes slots events h
