use Rattle.constraint_text.specs.Named.{NamedEntry}
use Rattle.constraint_text.specs.Constraints.{ConstraintEntry}
use Rattle.entry_text.proofs.OneReading as proof
use Rattle.constraint_text.proofs.OneNamed.{named_settled}
use Rattle.constraint_text.proofs.OneConstraint.{constraint_settled}
use Rattle.constraint_text.proofs.OneRelax.{given_reading}
use Rattle.constraint_text.proofs.laws.one_reading.Goals as goal

pub returns-clause-named : goal.returns-clause-named
returns-clause-named c = proof.one_reading NamedEntry named_settled.one

pub returns-clause-constraints : goal.returns-clause-constraints
returns-clause-constraints c = proof.one_reading ConstraintEntry constraint_settled.one

pub returns-clause-relaxes : goal.returns-clause-relaxes
returns-clause-relaxes c text a b r s = given_reading text r.each a r.entries r.is b s
