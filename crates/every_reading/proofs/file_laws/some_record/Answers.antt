use Rattle.every_reading.proofs.RecordAnswers as proof
use Rattle.every_reading.proofs.file_laws.some_record.Goals as goal

pub returns : goal.returns
returns c = proof.some_record
