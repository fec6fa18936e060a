use Rattle.cabal_lexer.proofs.RoundTrip as proof
use Rattle.cabal_lexer.proofs.laws.printable_tree.Goals as goal

pub returns : goal.returns
returns c = proof.printable_tree
