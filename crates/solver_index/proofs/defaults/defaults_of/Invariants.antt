-- the packages so far
use Rattle.plan_types.specs.Packages.{entries_of}
use Rattle.solver_index.specs.Defaults.{AreDefaultsIn}
use Rattle.solver_index.specs.Rows.{AreRows}
use Rattle.solver_index.proofs.defaults.defaults_of.Given as goal

abbrev pub invariant-loop-found : goal.invariant-loop-found
invariant-loop-found l = AreRows l.found-index (λ p. AreDefaultsIn (entries_of l.packages p) l.names) l.rows
