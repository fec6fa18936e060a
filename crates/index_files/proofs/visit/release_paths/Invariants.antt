-- the paths of the versions so far
use Rattle.std.proofs.Common.{◌≡◌, take}
use Rattle.index_files.specs.Releases.{release_paths}
use Rattle.index_files.proofs.visit.release_paths.Given as goal

abbrev pub invariant-loop-dir : goal.invariant-loop-dir
invariant-loop-dir l = l.paths ≡ release_paths l.places l.name (take l.dir-index l.dirs)
