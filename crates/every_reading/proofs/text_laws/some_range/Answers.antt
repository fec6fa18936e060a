use Rattle.every_reading.proofs.LoopReadings as proof
use Rattle.every_reading.proofs.text_laws.some_range.Goals as goal

pub returns : goal.returns
returns c spec = proof.some_range spec 64
