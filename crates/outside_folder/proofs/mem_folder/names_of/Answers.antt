use Rattle.std.proofs.Common.{sym, subst}
use Rattle.outside_folder.specs.Folder.{IsInOrder}
use Rattle.outside_folder.proofs.Orders.{none_in_order}
use Rattle.outside_folder.proofs.mem_folder.names_of.Goals as goal

pub returns-in-None-clause-order : goal.returns-in-None-clause-order
returns-in-None-clause-order c = subst IsInOrder (sym c.new.ensures) none_in_order
