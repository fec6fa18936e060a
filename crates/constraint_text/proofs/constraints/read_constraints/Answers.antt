use Rattle.entry_text.proofs.OneReading.{only_entries, only_first}
use Rattle.constraint_text.proofs.OneConstraint.{constraint_settled}
use Rattle.constraint_text.proofs.constraints.read_constraints.Goals as goal

pub returns-clause-exactly_entries : goal.returns-clause-exactly_entries
returns-clause-exactly_entries c = only_entries constraint_settled c.args.text.now c.read_entries.result c.read_entries.ensures.found c.read_entries.ensures.fault

pub returns-clause-exactly_faults : goal.returns-clause-exactly_faults
returns-clause-exactly_faults c = only_first constraint_settled c.args.text.now c.read_entries.result c.read_entries.ensures.found c.read_entries.ensures.fault
