use Rattle.every_reading.proofs.LoopReadings as proof
use Rattle.every_reading.proofs.text_laws.version_or_none.Goals as goal

pub returns : goal.returns
returns c = proof.version_or_none
