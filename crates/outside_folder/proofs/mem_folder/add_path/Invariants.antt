use Rattle.outside_folder.proofs.Listings.{Upto}
use Rattle.outside_folder.proofs.mem_folder.add_path.Given as goal

abbrev pub invariant-loop-end : goal.invariant-loop-end
invariant-loop-end l = Upto l.fn.dirs l.dirs l.path l.end
