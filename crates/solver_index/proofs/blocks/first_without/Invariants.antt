-- places in front of the bounds pass, and places behind them fail
use Rattle.std.proofs.Common.{◌≡◌, ℕ, ◌-◌, ◌<◌, ◌≤◌, true, false}
use Rattle.solver_index.specs.Blocks.{passes}
use Rattle.solver_index.specs.Places.{entry_at}
use Rattle.solver_index.proofs.blocks.first_without.Given as goal

abbrev pub invariant-loop-low : goal.invariant-loop-low
invariant-loop-low l = record {
  from : l.from ≤ l.low;
  middle : l.low ≤ l.high;
  to : l.high ≤ l.to;
  front : (k : ℕ) → l.from ≤ k → k < l.low → passes l.test l.range (entry_at l.entries k) ≡ true;
  rest : (k : ℕ) → l.high ≤ k → k < l.to → passes l.test l.range (entry_at l.entries k) ≡ false;
}

abbrev pub decreases-loop-low : goal.decreases-loop-low
decreases-loop-low l = l.high - l.low
