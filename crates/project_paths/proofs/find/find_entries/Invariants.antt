use Rattle.std.proofs.Common.{◌≡◌, drop, Some, Ok}
use Rattle.outside_folder.specs.Calls.{Leaves}
use Rattle.outside_folder.specs.Files.{Files}
use Rattle.project_paths.specs.Listings.{Agree}
use Rattle.project_paths.specs.Local.{all_files, and_then}
use Rattle.project_paths.proofs.find.find_entries.Given as goal

-- the paths so far, followed by those of the entries left, are the paths of all entries
abbrev pub invariant-loop-entry : goal.invariant-loop-entry
invariant-loop-entry g l = record {
  told : (files : Files) → g.F.Folder.tells l.fn.folder ≡ Some files → all_files files l.entries ≡ and_then (Ok l.found) (all_files files (drop l.entry-index l.entries));
  listed : Agree (g.F.Folder.tells l.folder) l.listings;
  folder : Leaves g.F.Folder.tells g.F.Folder.faults l.fn.folder l.folder ⊥;
}
