use Rattle.plan_jobs.proofs.Histories.{one_start, one_end}
use Rattle.plan_jobs.proofs.laws.one_reply.Goals as goal

pub returns-clause-start : goal.returns-clause-start
returns-clause-start c = λ nodes slots events a b x y. one_start nodes slots events a b x y

pub returns-clause-end : goal.returns-clause-end
returns-clause-end c = λ nodes events place a b x y. one_end nodes events place a b x y
