use Rattle.cabal_lexer.proofs.OneTree.{one_refusal}
use Rattle.cabal_lexer.proofs.laws.one_fault.Goals as goal

pub returns : goal.returns
returns c = one_refusal
