use Rattle.constraint_text.specs.Constraints.{ConstraintEntry}
use Rattle.constraint_text.specs.Faults.{IsBadConstraint}
use Rattle.constraint_text.specs.Named.{NamedEntry}
use Rattle.every_reading.proofs.ConstraintAnswers.{named_decided, some_constraint}
use Rattle.every_reading.proofs.DecidedReadings.{bad_as_none}
use Rattle.every_reading.proofs.EntryAnswers as proof
use Rattle.every_reading.proofs.RelaxAnswers.{some_relaxes}
use Rattle.every_reading.proofs.text_laws.some_constraints.Goals as goal

pub returns-clause-named : goal.returns-clause-named
returns-clause-named c = proof.some_reading NamedEntry (IsBadConstraint NamedEntry) (λ part. bad_as_none NamedEntry part (named_decided part))

pub returns-clause-constraints : goal.returns-clause-constraints
returns-clause-constraints c = proof.some_reading ConstraintEntry (IsBadConstraint ConstraintEntry) some_constraint

pub returns-clause-relaxes : goal.returns-clause-relaxes
returns-clause-relaxes c = some_relaxes
