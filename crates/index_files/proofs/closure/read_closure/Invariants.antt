use Rattle.std.proofs.Common.{◌≡◌, ◌-◌, ◌^◌, ◌≤◌, length, map, Some}
use Rattle.outside_folder.specs.Calls.{Leaves}
use Rattle.outside_folder.specs.Files.{Files}
use Rattle.index_files.specs.Ground.{ground_of}
use Rattle.index_files.specs.Steps.{AreKept, AreReadSoFar, pair_up}
use Rattle.index_files.specs.declared.closure.FoundName.{FoundName}
use Rattle.index_files.proofs.closure.read_closure.Given as goal

-- the names that were read, and those that are still to be read
abbrev pub invariant-loop-alloc : goal.invariant-loop-alloc
invariant-loop-alloc g l = record {
  within : length l.found ≤ length l.names.keys;
  pairs : l.found ≡ pair_up l.names.keys (map (λ (f : FoundName). f.releases) l.found);
  kept : AreKept (ground_of l.before) l.names.keys l.found;
  told : (files : Files) → g.F.Folder.tells l.fn.folder ≡ Some files → AreReadSoFar (ground_of l.before) files l.fn.totals l.totals l.names.keys l.found;
  folder : Leaves g.F.Folder.tells g.F.Folder.faults l.fn.folder l.folder ⊥;
}

-- at most 2^64 names are read
abbrev pub decreases-loop-alloc : goal.decreases-loop-alloc
decreases-loop-alloc g l = 2 ^ 64 - length l.found
