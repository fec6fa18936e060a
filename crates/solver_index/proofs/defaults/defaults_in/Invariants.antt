-- the instances so far
use Rattle.solver_index.specs.Defaults.{AreDefaultsOf}
use Rattle.solver_index.specs.Places.{entry_at}
use Rattle.solver_index.specs.Rows.{AreRows}
use Rattle.solver_index.proofs.defaults.defaults_in.Given as goal

abbrev pub invariant-loop-entry : goal.invariant-loop-entry
invariant-loop-entry l = AreRows l.entry-index (λ i. AreDefaultsOf l.names (entry_at l.entries i)) l.row
