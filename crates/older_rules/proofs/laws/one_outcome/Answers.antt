use Rattle.older_rules.proofs.OneOutcome as proof
use Rattle.older_rules.proofs.laws.one_outcome.Goals as goal

pub returns : goal.returns
returns c = proof.one_outcome
