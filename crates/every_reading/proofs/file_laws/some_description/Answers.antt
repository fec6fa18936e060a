use Rattle.every_reading.proofs.Descriptions as proof
use Rattle.every_reading.proofs.file_laws.some_description.Goals as goal

pub returns : goal.returns
returns c = proof.some_description
