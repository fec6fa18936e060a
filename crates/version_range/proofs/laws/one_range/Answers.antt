use Rattle.version_range.proofs.OneRange as proof
use Rattle.version_range.proofs.laws.one_range.Goals as goal

pub returns : goal.returns
returns c spec = proof.one_range spec 64
