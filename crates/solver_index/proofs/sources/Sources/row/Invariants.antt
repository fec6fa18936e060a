-- the instances so far
use Rattle.std.proofs.Common.{◌≡◌, map, take}
use Rattle.solver_index.specs.Dependencies.{entry_dependencies}
use Rattle.solver_index.proofs.sources.Sources.row.Given as goal

abbrev pub invariant-loop-entry : goal.invariant-loop-entry
invariant-loop-entry l = l.row ≡ map (entry_dependencies l.self.packages.now l.self.project.now l.self.names.now) (take l.entry-index l.entries)
