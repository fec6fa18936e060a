use Rattle.older_layout.proofs.OneOlderTree.{one_tree}
use Rattle.older_layout.proofs.laws.one_tree.Goals as goal

pub returns : goal.returns
returns c = one_tree
