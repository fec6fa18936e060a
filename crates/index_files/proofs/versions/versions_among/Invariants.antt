-- the versions among the names so far
use Rattle.std.proofs.Common.{take}
use Rattle.index_files.specs.Releases.{AreVersions}
use Rattle.index_files.proofs.versions.versions_among.Given as goal

abbrev pub invariant-loop-name : goal.invariant-loop-name
invariant-loop-name l = AreVersions (take l.name-index l.names) l.dirs
