use Rattle.outside_folder.proofs.FileTrees.{Fits}
use Rattle.outside_folder.proofs.mem_folder.stand_apart.Given as goal

abbrev pub invariant-loop-file : goal.invariant-loop-file
invariant-loop-file l = Fits l.files l.places l.file-index
