use Rattle.every_reading.proofs.Sections as proof
use Rattle.every_reading.proofs.file_laws.some_file.Goals as goal

pub returns : goal.returns
returns c = proof.some_file
