use Rattle.version_range.proofs.ReadBack as proof
use Rattle.version_range.proofs.laws.reads_back.Goals as goal

pub returns : goal.returns
returns c spec = proof.reads_back spec _
