use Rattle.std.proofs.Common.{◌≡◌, take, Some}
use Rattle.std.specs.Prelude.{IsTrue}
use Rattle.std.specs.List.{list_all}
use Rattle.outside_folder.specs.Calls.{Leaves}
use Rattle.outside_folder.specs.Files.{Files}
use Rattle.project_paths.specs.Listings.{Agree}
use Rattle.project_paths.specs.Places.{places}
use Rattle.project_paths.specs.MatchedPaths.{Leads, Settled, is_looked_up}
use Rattle.project_paths.proofs.matched_paths.matched_paths.Given as goal

abbrev pub invariant-loop-name : goal.invariant-loop-name
invariant-loop-name g l = record {
  told : (files : Files) → g.F.Folder.tells l.fn.folder ≡ Some files → Leads files l.found (places files (take l.name-index l.names));
  settled : (files : Files) → g.F.Folder.tells l.fn.folder ≡ Some files → Settled files l.found;
  looked_up : IsTrue (list_all is_looked_up l.found);
  listed : Agree (g.F.Folder.tells l.folder) l.listings;
  folder : Leaves g.F.Folder.tells g.F.Folder.faults l.fn.folder l.folder ⊥;
}
