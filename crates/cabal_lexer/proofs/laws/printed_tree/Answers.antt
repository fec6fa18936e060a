use Rattle.cabal_lexer.proofs.RoundTrip as proof
use Rattle.cabal_lexer.proofs.laws.printed_tree.Goals as goal

pub returns : goal.returns
returns c = proof.printed_tree
