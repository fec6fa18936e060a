use Rattle.every_reading.proofs.SourceAnswers as proof
use Rattle.every_reading.proofs.file_laws.some_source.Goals as goal

pub returns : goal.returns
returns c = proof.some_source
