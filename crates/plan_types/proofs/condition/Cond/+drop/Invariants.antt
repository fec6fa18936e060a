use Rattle.std.proofs.Common.{◌≤◌}
use Rattle.plan_types.specs.declared.condition.Cond.{size-Cond}
use Rattle.plan_types.proofs.condition.Cond.+drop.Given as goal

-- the rest is no larger than the whole
abbrev pub invariant-loop-self : goal.invariant-loop-self
invariant-loop-self l = size-Cond l.self ≤ size-Cond l.initial.self
