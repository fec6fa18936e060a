use Rattle.std.proofs.Common.{◌≡◌, ◌++◌}
use Rattle.project_file.specs.Project.{entries_at}
use Rattle.project_file.proofs.project.push_entries.Given as goal

abbrev pub invariant-loop-text : goal.invariant-loop-text
invariant-loop-text l = l.entries ++ entries_at l.path l.line l.text-iterator.rest.items l.optional ≡ l.fn.entries ++ entries_at l.path l.line l.fn.texts l.optional
