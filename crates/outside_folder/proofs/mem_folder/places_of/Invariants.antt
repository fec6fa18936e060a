use Rattle.std.proofs.Common.{take}
use Rattle.outside_folder.specs.MemFile.{AreDistinct, Placed}
use Rattle.outside_folder.proofs.mem_folder.places_of.Given as goal

abbrev pub invariant-loop-place : goal.invariant-loop-place
invariant-loop-place l = AreDistinct (take l.place l.files) × Placed (take l.place l.files) l.places
