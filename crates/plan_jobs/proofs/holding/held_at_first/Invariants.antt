use Rattle.std.proofs.Common.{◌<◌, ◌≤◌, length}
use Rattle.plan_jobs.specs.Marks.{NoneMarked}
use Rattle.plan_jobs.specs.Board.{AreHeld, HasFailed}
use Rattle.plan_jobs.proofs.holding.held_at_first.Given as goal

abbrev pub invariant-loop-place : goal.invariant-loop-place
invariant-loop-place l =
    record {
      held : AreHeld l.users l.states (λ need. HasFailed l.states need × (need < l.place)) l.held;
      room : length l.states ≤ length l.to_go;
      idle : NoneMarked l.to_go;
    }
