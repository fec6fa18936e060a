use Rattle.std.proofs.Common.{◌+◌, ◌*◌, not}
use Rattle.std.specs.Prelude.{count_by}
use Rattle.plan_jobs.proofs.Spread.{IsHolding}
use Rattle.plan_jobs.proofs.holding.mark_held.Given as goal

abbrev pub invariant-loop-next : goal.invariant-loop-next
invariant-loop-next l = IsHolding l.users l.states l.place l.fn.held l.held l.fn.to_go l.to_go

abbrev pub decreases-loop-next : goal.decreases-loop-next
decreases-loop-next l = 2 * count_by not l.held + count_by (λ mark. mark) l.to_go
