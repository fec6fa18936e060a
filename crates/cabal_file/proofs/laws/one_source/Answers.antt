use Rattle.cabal_file.proofs.OneSource.{one-source}
use Rattle.cabal_file.proofs.laws.one_source.Goals as goal

pub returns : goal.returns
returns c = one-source c.one_tree.ensures c.one_fault.ensures c.tree_or_fault.ensures c.one_outcome.ensures
