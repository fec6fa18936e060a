use Rattle.std.proofs.Common.{take}
use Rattle.plan_jobs.specs.Board.{MarksUsers}
use Rattle.plan_jobs.proofs.holding.hold_users.Given as goal

abbrev pub invariant-loop-user : goal.invariant-loop-user
invariant-loop-user l = MarksUsers (take l.user-index l.users) l.states l.fn.held l.held l.fn.to_go l.to_go
