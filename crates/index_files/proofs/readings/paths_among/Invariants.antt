-- the paths of the records so far
use Rattle.std.proofs.Common.{◌≡◌, take}
use Rattle.index_files.specs.Units.{record_paths}
use Rattle.index_files.proofs.readings.paths_among.Given as goal

abbrev pub invariant-loop-name : goal.invariant-loop-name
invariant-loop-name l = l.paths ≡ record_paths l.places (take l.name-index l.names)
