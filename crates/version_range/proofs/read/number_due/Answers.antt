use Rattle.version_range.proofs.VersionReaders.{number_given, number_missing}
use Rattle.version_range.proofs.read.number_due.Goals as goal

pub returns-in-Some-clause-gives : goal.returns-in-Some-clause-gives
returns-in-Some-clause-gives c = number_given c.args.spec c.args.text.now c.in-Some.found.0 c.in-Some.found.1.now c.in-Some.ensures.found

pub returns-in-None-clause-gives : goal.returns-in-None-clause-gives
returns-in-None-clause-gives c = rw c.fault_at.ensures (number_missing c.args.spec c.args.text.now c.in-None.ensures.none)
