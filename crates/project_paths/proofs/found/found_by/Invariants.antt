use Rattle.std.proofs.Common.{◌≡◌, true, map, take, Some}
use Rattle.std.specs.Prelude.{filter, flat_map, IsTrue}
use Rattle.std.specs.List.{list_any}
use Rattle.outside_folder.specs.Calls.{Leaves}
use Rattle.outside_folder.specs.Files.{Files, is_tree}
use Rattle.project_paths.specs.Found.{found_at, has_files}
use Rattle.project_paths.specs.Listings.{Agree}
use Rattle.project_paths.specs.MatchedPaths.{is_open, seen}
use Rattle.project_paths.proofs.found.found_by.Given as goal

abbrev pub invariant-loop-matched : goal.invariant-loop-matched
invariant-loop-matched g l = record {
  told : (files : Files) → g.F.Folder.tells l.fn.folder ≡ Some files → IsTrue (is_tree files) →
      filter has_files l.all ≡ filter has_files (map (found_at files l.pattern.folders) (flat_map (seen files) (take l.matched-index l.matched-items)));
  tree : (files : Files) → g.F.Folder.tells l.fn.folder ≡ Some files → list_any is_open (take l.matched-index l.matched-items) ≡ true → IsTrue (is_tree files);
  listed : Agree (g.F.Folder.tells l.folder) l.listings;
  folder : Leaves g.F.Folder.tells g.F.Folder.faults l.fn.folder l.folder ⊥;
}
