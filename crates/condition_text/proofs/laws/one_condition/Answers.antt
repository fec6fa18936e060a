use Rattle.condition_text.proofs.WholeConditions as proof
use Rattle.condition_text.proofs.laws.one_condition.Goals as goal

pub returns : goal.returns
returns c spec = proof.one_condition spec 64
