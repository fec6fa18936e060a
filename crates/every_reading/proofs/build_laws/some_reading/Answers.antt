use Rattle.every_reading.proofs.Events as proof
use Rattle.every_reading.proofs.build_laws.some_reading.Goals as goal

pub returns : goal.returns
returns c = proof.some_reading
