use Rattle.std.proofs.Common.{◌≡◌, take}
use Rattle.older_layout.proofs.relaid.borrowed.Given as goal

abbrev pub invariant-loop-line : goal.invariant-loop-line
invariant-loop-line l = l.found.items ≡ take l.line-index l.lines
