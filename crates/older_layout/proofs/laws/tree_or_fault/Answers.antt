use Rattle.older_layout.proofs.OneOlderTree.{tree_or_fault}
use Rattle.older_layout.proofs.laws.tree_or_fault.Goals as goal

pub returns : goal.returns
returns c = tree_or_fault
