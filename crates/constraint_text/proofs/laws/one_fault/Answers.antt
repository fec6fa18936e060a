use Rattle.constraint_text.specs.Named.{NamedEntry}
use Rattle.constraint_text.specs.Constraints.{ConstraintEntry}
use Rattle.entry_text.proofs.OneReading as proof
use Rattle.constraint_text.proofs.OneNamed.{named_settled}
use Rattle.constraint_text.proofs.OneConstraint.{constraint_settled}
use Rattle.constraint_text.proofs.OneRelax.{relax_settled}
use Rattle.constraint_text.specs.Relaxes.{RelaxEntry}
use Rattle.constraint_text.specs.Faults.{IsBadConstraint}
use Rattle.constraint_text.proofs.laws.one_fault.Goals as goal

pub returns-clause-named : goal.returns-clause-named
returns-clause-named c = proof.one_first NamedEntry (IsBadConstraint NamedEntry) named_settled

pub returns-clause-constraints : goal.returns-clause-constraints
returns-clause-constraints c = proof.one_first ConstraintEntry (IsBadConstraint ConstraintEntry) constraint_settled

pub returns-clause-relaxes : goal.returns-clause-relaxes
returns-clause-relaxes c = proof.one_first RelaxEntry (IsBadConstraint RelaxEntry) relax_settled
