use Rattle.broken_units.proofs.Marked.{Places}
use Rattle.broken_units.proofs.marks.places.Given as goal

abbrev pub invariant-loop-place : goal.invariant-loop-place
invariant-loop-place l = Places l.marked l.found l.place
