use Rattle.older_rules.proofs.OneOutcome as proof
use Rattle.older_rules.proofs.laws.header_first.Goals as goal

pub returns : goal.returns
returns c = proof.header_first
