-- the entries and warnings of the local packages so far
use Rattle.std.proofs.Common.{◌≡◌, ◌++◌}
use Rattle.std.specs.Prelude.{flat_map}
use Rattle.index_assembly.specs.Entries.{local_entries}
use Rattle.index_assembly.specs.Index.{warnings_of}
use Rattle.index_assembly.proofs.index.local_entries.Given as goal

abbrev pub invariant-loop-local : goal.invariant-loop-local
invariant-loop-local l = record {
  entries : l.entries ≡ local_entries l.yielded;
  warnings : l.warnings ≡ l.fn.warnings ++ flat_map warnings_of l.yielded;
}
