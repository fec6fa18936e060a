use Rattle.plan_task.proofs.Tasks.{ready-with}
use Rattle.plan_task.proofs.task.task_of.Goals as goal

pub returns-clause-ready : goal.returns-clause-ready
returns-clause-ready c = ready-with c.args.options c.args.project c.args.freeze c.args.index c.requires.sound c.requires.there c.requires.marked c.unwrap_or-limit.result c.in_ok-index.index c.in_ok-index.ensures
