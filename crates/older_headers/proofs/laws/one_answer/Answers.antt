use Rattle.older_headers.proofs.OneOutcome as proof
use Rattle.older_headers.proofs.laws.one_answer.Goals as goal

pub returns : goal.returns
returns c = proof.one_answer c.one_tree.ensures c.one_outcome.ensures
