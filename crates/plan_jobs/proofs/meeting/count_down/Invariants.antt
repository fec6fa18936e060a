use Rattle.std.proofs.Common.{◌≡◌, ◌+◌, ℕ, length, get_or, take}
use Rattle.plan_jobs.specs.Board.{AreReady, times}
use Rattle.plan_jobs.proofs.meeting.count_down.Given as goal

abbrev pub invariant-loop-user : goal.invariant-loop-user
invariant-loop-user l =
    record {
      count : length l.unmet ≡ length l.fn.unmet;
      room : length l.ready ≡ length l.fn.ready;
      less : (user : ℕ) → get_or l.unmet user 0 + times user (take l.user-index l.users) ≡ get_or l.fn.unmet user 0;
      ready : AreReady l.states l.unmet l.ready;
    }
