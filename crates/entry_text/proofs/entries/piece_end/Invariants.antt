use Rattle.std.proofs.Common.{◌≡◌, ◌≤◌, true, take}
use Rattle.entry_text.specs.Entries.{left_open, commas_inside}
use Rattle.entry_text.proofs.entries.piece_end.Given as goal

abbrev pub invariant-loop-at : goal.invariant-loop-at
invariant-loop-at l = record {
  depth : l.depth ≡ left_open 0 (take l.at l.text);
  inside : commas_inside 0 (take l.at l.text) ≡ true;
  within : l.depth ≤ l.at;
}
