-- the entries and skipped files of the releases so far
use Rattle.std.proofs.Common.{◌≡◌, ◌++◌}
use Rattle.std.specs.Prelude.{flat_map}
use Rattle.index_files.specs.declared.release.Release.{Release}
use Rattle.index_assembly.specs.Entries.{entries_in}
use Rattle.index_assembly.specs.Index.{skipped_by}
use Rattle.index_assembly.proofs.packages.readable.Given as goal

abbrev pub invariant-loop-release : goal.invariant-loop-release
invariant-loop-release l = record {
  entries : l.entries ≡ flat_map (λ (r : Release). entries_in r.judged) l.yielded;
  skipped : l.skipped ≡ l.fn.skipped ++ flat_map (λ (r : Release). skipped_by r.path r.judged) l.yielded;
}
