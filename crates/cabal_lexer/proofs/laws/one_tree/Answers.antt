use Rattle.cabal_lexer.proofs.OneTree.{one_tree}
use Rattle.cabal_lexer.proofs.laws.one_tree.Goals as goal

pub returns : goal.returns
returns c = one_tree
