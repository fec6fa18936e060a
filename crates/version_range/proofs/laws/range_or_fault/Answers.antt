use Rattle.version_range.proofs.OneRange as proof
use Rattle.version_range.proofs.laws.range_or_fault.Goals as goal

pub returns : goal.returns
returns c spec = proof.range_or_fault spec 64
