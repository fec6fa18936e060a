use Rattle.entry_text.proofs.OneReading.{only_entries, only_first}
use Rattle.depend_text.proofs.OneLibrary.{tool_settled}
use Rattle.depend_text.proofs.depends.read_tools.Goals as goal

pub returns-clause-exactly_entries : goal.returns-clause-exactly_entries
returns-clause-exactly_entries c = only_entries (tool_settled c.args.spec c.args.line) c.args.text.now c.read_entries.result c.read_entries.ensures.found c.read_entries.ensures.fault

pub returns-clause-exactly_faults : goal.returns-clause-exactly_faults
returns-clause-exactly_faults c = only_first (tool_settled c.args.spec c.args.line) c.args.text.now c.read_entries.result c.read_entries.ensures.found c.read_entries.ensures.fault
