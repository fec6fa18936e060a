use Rattle.project_file.proofs.One as proof
use Rattle.project_file.proofs.laws.one_outcome.Goals as goal

pub returns : goal.returns
returns c = proof.one_outcome
