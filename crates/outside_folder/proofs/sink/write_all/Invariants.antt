use Rattle.std.proofs.Common.{◌≡◌, ℕ, ◌-◌, ◌≤◌, List, length, take, drop}
use Rattle.outside_folder.specs.Sink.{Appends, Offers}
use Rattle.outside_folder.proofs.sink.write_all.Given as goal

-- a prefix of the text has been written, and each write was offered all that was left
abbrev pub invariant-loop-written : goal.invariant-loop-written
invariant-loop-written g l = record {
  within : l.written ≤ length l.text;
  front : Appends (g.S.Sink.bytes l.initial.sink) (g.S.Sink.bytes l.sink) (take l.written l.text);
  offered : (counts : List ℕ) × Offers g.S.Sink.takes l.initial.sink l.text counts l.sink (drop l.written l.text);
  still : g.S.Sink.faults l.sink ≡ g.S.Sink.faults l.initial.sink;
}

abbrev pub decreases-loop-written : goal.decreases-loop-written
decreases-loop-written g l = length l.text - l.written
