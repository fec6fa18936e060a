use Rattle.std.proofs.Common.{◌≤◌, ◌+◌, ◌++◌, ℕ, List, length}
use Rattle.std.specs.Str.Lines.{lines}
use Rattle.replay_text.specs.declared.event.JobEvent.{JobEvent}
use Rattle.replay_text.specs.Reading.{AreEvents, IsFirstBad}
use Rattle.replay_text.proofs.read.read_events.Given as goal

abbrev pub invariant-loop-line : goal.invariant-loop-line
invariant-loop-line l =
    record {
      goes : (more : List JobEvent) → AreEvents (lines l.rest) more → AreEvents (lines l.bytes) (l.events ++ more);
      bad : (number : ℕ) → IsFirstBad (lines l.rest) number → IsFirstBad (lines l.bytes) (l.number + number);
      few : l.number + length l.rest ≤ length l.bytes;
    }

abbrev pub decreases-loop-line : goal.decreases-loop-line
decreases-loop-line l = length l.rest
