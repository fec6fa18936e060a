use Rattle.std.proofs.Common.{◌≡◌, ◌++◌, Some}
use Rattle.std.specs.Prelude.{flat_map, IsTrue}
use Rattle.std.specs.List.{list_all}
use Rattle.outside_folder.specs.Calls.{Leaves}
use Rattle.outside_folder.specs.Files.{Files, is_tree}
use Rattle.project_paths.specs.Listings.{Agree}
use Rattle.project_paths.specs.Places.{below}
use Rattle.project_paths.specs.MatchedPaths.{Settled, is_looked_up, seen}
use Rattle.project_paths.proofs.matched_paths.all_below.Given as goal

abbrev pub invariant-loop-matched : goal.invariant-loop-matched
invariant-loop-matched g l = record {
  told : (files : Files) → g.F.Folder.tells l.fn.folder ≡ Some files → IsTrue (is_tree files) →
      flat_map (seen files) l.found ++ flat_map (below files l.pattern) (flat_map (seen files) l.matched-iterator.rest.items) ≡ flat_map (below files l.pattern) (flat_map (seen files) l.fn.matched_paths);
  settled : (files : Files) → g.F.Folder.tells l.fn.folder ≡ Some files → Settled files l.fn.matched_paths → Settled files (l.found ++ l.matched-iterator.rest.items);
  looked_up : IsTrue (list_all is_looked_up l.found);
  listed : Agree (g.F.Folder.tells l.folder) l.listings;
  folder : Leaves g.F.Folder.tells g.F.Folder.faults l.fn.folder l.folder ⊥;
}
