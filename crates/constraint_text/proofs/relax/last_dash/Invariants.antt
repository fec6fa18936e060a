use Rattle.constraint_text.proofs.Dashes.{LastDash}
use Rattle.constraint_text.proofs.relax.last_dash.Given as goal

abbrev pub invariant-loop-at : goal.invariant-loop-at
invariant-loop-at l = LastDash l.text l.at l.found
