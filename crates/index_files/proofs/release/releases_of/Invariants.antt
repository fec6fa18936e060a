-- the releases of the versions so far
use Rattle.std.proofs.Common.{take}
use Rattle.index_files.specs.Releases.{AreReleases}
use Rattle.index_files.proofs.release.releases_of.Given as goal

abbrev pub invariant-loop-place : goal.invariant-loop-place
invariant-loop-place l = AreReleases l.env l.name (take l.place l.dirs) (take l.place l.files) l.releases
