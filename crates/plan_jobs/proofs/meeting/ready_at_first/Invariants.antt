use Rattle.std.proofs.Common.{◌≡◌, ◌<◌, ◌≤◌, ℕ, length, get_or}
use Rattle.std.specs.Prelude.{◌↔◌}
use Rattle.common_laws.specs.Graphs.{IsMarked}
use Rattle.plan_jobs.specs.declared.job.JobState.TheVariants.{Waiting}
use Rattle.plan_jobs.specs.Board.{state_at}
use Rattle.plan_jobs.proofs.meeting.ready_at_first.Given as goal

abbrev pub invariant-loop-place : goal.invariant-loop-place
invariant-loop-place l =
    record {
      room : length l.states ≤ length l.ready;
      each : (place : ℕ) → IsMarked l.ready place ↔ (place < l.place) × (state_at l.states place ≡ Waiting) × (get_or l.unmet place 0 ≡ 0);
    }
