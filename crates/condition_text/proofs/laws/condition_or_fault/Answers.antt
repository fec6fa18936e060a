use Rattle.condition_text.proofs.WholeConditions as proof
use Rattle.condition_text.proofs.laws.condition_or_fault.Goals as goal

pub returns : goal.returns
returns c spec = proof.condition_or_fault spec 64
