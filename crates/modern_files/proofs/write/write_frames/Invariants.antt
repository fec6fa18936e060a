-- the frames so far, and no failure
use Rattle.std.proofs.Common.{◌≡◌, Some}
use Rattle.outside_folder.specs.Calls.{Leaves}
use Rattle.outside_folder.specs.Files.{Files}
use Rattle.modern_files.proofs.Steps.{Wrote}
use Rattle.modern_files.proofs.write.write_frames.Given as goal

abbrev pub invariant-loop-path : goal.invariant-loop-path
invariant-loop-path g l = record {
  wrote : (files : Files) → g.F.Folder.tells l.fn.folder ≡ Some files → Wrote files l.paths l.path-index (g.S.Sink.bytes l.fn.out) (g.S.Sink.bytes l.out);
  folder : Leaves g.F.Folder.tells g.F.Folder.faults l.fn.folder l.folder ⊥;
  still : g.S.Sink.faults l.out ≡ g.S.Sink.faults l.fn.out;
}
