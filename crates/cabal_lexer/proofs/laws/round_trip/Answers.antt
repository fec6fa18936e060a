use Rattle.cabal_lexer.proofs.RoundTrip as proof
use Rattle.cabal_lexer.proofs.laws.round_trip.Goals as goal

pub returns : goal.returns
returns c = proof.round_trip
