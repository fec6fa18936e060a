use Rattle.older_layout.proofs.OneOlderTree.{one_fault}
use Rattle.older_layout.proofs.laws.one_fault.Goals as goal

pub returns : goal.returns
returns c = one_fault
