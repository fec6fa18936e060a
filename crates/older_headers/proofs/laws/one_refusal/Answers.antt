use Rattle.older_headers.proofs.OneOutcome.{Below}
use Rattle.older_headers.proofs.OneOutcome as proof
use Rattle.older_headers.proofs.laws.one_refusal.Goals as goal

pub returns : goal.returns
returns c =
    proof.one_refusal (record { tree = c.one_tree.ensures; fault = c.one_fault.ensures; either = c.tree_or_fault.ensures; rules = c.one_outcome.ensures })
