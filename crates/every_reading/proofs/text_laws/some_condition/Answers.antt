use Rattle.every_reading.proofs.LoopReadings as proof
use Rattle.every_reading.proofs.text_laws.some_condition.Goals as goal

pub returns : goal.returns
returns c spec = proof.some_condition spec 64
