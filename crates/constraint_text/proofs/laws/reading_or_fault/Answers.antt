use Rattle.constraint_text.specs.Named.{NamedEntry}
use Rattle.constraint_text.specs.Constraints.{ConstraintEntry}
use Rattle.entry_text.proofs.OneReading as proof
use Rattle.constraint_text.proofs.OneNamed.{named_settled}
use Rattle.constraint_text.proofs.OneConstraint.{constraint_settled}
use Rattle.constraint_text.proofs.OneRelax.{no_fault}
use Rattle.constraint_text.specs.Faults.{IsBadConstraint}
use Rattle.constraint_text.proofs.laws.reading_or_fault.Goals as goal

pub returns-clause-named : goal.returns-clause-named
returns-clause-named c = proof.reading_or_fault NamedEntry (IsBadConstraint NamedEntry) named_settled.not_both

pub returns-clause-constraints : goal.returns-clause-constraints
returns-clause-constraints c = proof.reading_or_fault ConstraintEntry (IsBadConstraint ConstraintEntry) constraint_settled.not_both

pub returns-clause-relaxes : goal.returns-clause-relaxes
returns-clause-relaxes c text a cause r f = no_fault text r.each r.entries cause f
