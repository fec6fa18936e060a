use Rattle.older_headers.proofs.OneOutcome as proof
use Rattle.older_headers.proofs.laws.answer_or_refusal.Goals as goal

pub returns : goal.returns
returns c = proof.answer_or_refusal c.one_tree.ensures c.tree_or_fault.ensures c.one_outcome.ensures
