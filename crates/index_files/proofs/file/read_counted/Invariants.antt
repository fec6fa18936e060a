-- the files so far, all of which fit
use Rattle.std.proofs.Common.{◌≡◌, false, length, map, take, Some}
use Rattle.std.specs.List.{AllByRecursion}
use Rattle.outside_folder.specs.Calls.{Leaves}
use Rattle.outside_folder.specs.Files.{Files}
use Rattle.index_files.specs.File.{Counts, HasContentWithinLimit, file_found}
use Rattle.index_files.proofs.FileTotals.{Fit}
use Rattle.index_files.proofs.file.read_counted.Given as goal

abbrev pub invariant-loop-path : goal.invariant-loop-path
invariant-loop-path g l = record {
  told : (files : Files) → g.F.Folder.tells l.fn.folder ≡ Some files → l.files ≡ map (file_found false files) (take l.path-index l.paths);
  fit : Fit l.fn.totals.files l.fn.totals.bytes l.files l.totals.files l.totals.bytes;
  counts : Counts l.fn.totals l.totals l.files;
  length : length l.files ≡ l.path-index;
  readable : AllByRecursion HasContentWithinLimit l.files;
  folder : Leaves g.F.Folder.tells g.F.Folder.faults l.fn.folder l.folder ⊥;
}
