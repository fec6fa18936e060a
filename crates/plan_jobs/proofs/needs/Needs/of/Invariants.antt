use Rattle.plan_jobs.proofs.Reading.{IsRead}
use Rattle.plan_jobs.proofs.needs.Needs.of.Given as goal

abbrev pub invariant-loop-node : goal.invariant-loop-node
invariant-loop-node l = IsRead l.nodes l.node-index l.needs
