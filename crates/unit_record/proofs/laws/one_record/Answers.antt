use Rattle.unit_record.proofs.One as proof
use Rattle.unit_record.proofs.laws.one_record.Goals as goal

pub returns : goal.returns
returns c = proof.one_record
