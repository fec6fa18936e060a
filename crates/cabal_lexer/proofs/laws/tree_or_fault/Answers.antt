use Rattle.cabal_lexer.proofs.OneTree.{tree_or_fault}
use Rattle.cabal_lexer.proofs.laws.tree_or_fault.Goals as goal

pub returns : goal.returns
returns c = tree_or_fault
