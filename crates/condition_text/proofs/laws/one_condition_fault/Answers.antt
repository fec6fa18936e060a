use Rattle.condition_text.proofs.WholeConditions as proof
use Rattle.condition_text.proofs.laws.one_condition_fault.Goals as goal

pub returns : goal.returns
returns c spec = proof.one_fault spec 64
