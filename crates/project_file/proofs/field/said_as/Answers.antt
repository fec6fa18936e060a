use Rattle.constraint_text.specs.Constraints.{Constraints, ConstraintsFault}
use Rattle.constraint_text.specs.Named.{NamedRanges, NamedFault}
use Rattle.constraint_text.specs.Relaxes.{Relaxes, RelaxFault}
use Rattle.project_file.specs.declared.part.ProjectSaid.TheVariants as said
use Rattle.project_file.proofs.ListFields.{list_says}
use Rattle.project_file.proofs.field.said_as.Goals as goal

pub returns-in-Extra : goal.returns-in-Extra
returns-in-Extra c = rw c.in-Extra.is (list_says said.Extra NamedRanges NamedFault c.read_named.result c.said_of.result c.as_bytes-bytes.ensures c.read_named.ensures.entries c.read_named.ensures.fault c.said_of.ensures)

pub returns-in-Constraints : goal.returns-in-Constraints
returns-in-Constraints c = rw c.in-Constraints.is (list_says said.Constraints Constraints ConstraintsFault c.read_constraints.result c.said_of-in-Constraints.result c.as_bytes-bytes.ensures c.read_constraints.ensures.entries c.read_constraints.ensures.fault c.said_of-in-Constraints.ensures)

pub returns-in-Preferences : goal.returns-in-Preferences
returns-in-Preferences c = rw c.in-Preferences.is (list_says said.Preferences NamedRanges NamedFault c.read_named-in-Preferences.result c.said_of-in-Preferences.result c.as_bytes-bytes.ensures c.read_named-in-Preferences.ensures.entries c.read_named-in-Preferences.ensures.fault c.said_of-in-Preferences.ensures)

pub returns-in-Newer : goal.returns-in-Newer
returns-in-Newer c = rw c.in-Newer.is (list_says said.Newer Relaxes RelaxFault c.read_relax.result c.said_of-in-Newer.result c.as_bytes-bytes.ensures c.read_relax.ensures.entries c.read_relax.ensures.fault c.said_of-in-Newer.ensures)

pub returns-in-Older : goal.returns-in-Older
returns-in-Older c = rw c.in-Older.is (list_says said.Older Relaxes RelaxFault c.read_relax-in-Older.result c.said_of-in-Older.result c.as_bytes-bytes.ensures c.read_relax-in-Older.ensures.entries c.read_relax-in-Older.ensures.fault c.said_of-in-Older.ensures)
