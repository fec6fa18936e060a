use Rattle.std.proofs.Common.{take}
use Rattle.outside_folder.specs.MemFile.{Listed}
use Rattle.outside_folder.proofs.mem_folder.dirs_of.Given as goal

abbrev pub invariant-loop-file : goal.invariant-loop-file
invariant-loop-file l = Listed (take l.file-index l.files) l.dirs
