-- the paths so far, and no failure
use Rattle.std.proofs.Common.{◌≡◌, Some}
use Rattle.outside_folder.specs.Calls.{Leaves}
use Rattle.outside_folder.specs.Files.{Files}
use Rattle.modern_files.proofs.Steps.{Goes}
use Rattle.modern_files.proofs.lists.read_lists.Given as goal

abbrev pub invariant-loop-list : goal.invariant-loop-list
invariant-loop-list g l = record {
  goes : (files : Files) → g.F.Folder.tells l.fn.folder ≡ Some files → Goes files l.lists l.list-index l.paths;
  folder : Leaves g.F.Folder.tells g.F.Folder.faults l.fn.folder l.folder ⊥;
}
