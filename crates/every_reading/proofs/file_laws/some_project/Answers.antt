use Rattle.every_reading.proofs.ProjectAnswers as proof
use Rattle.every_reading.proofs.file_laws.some_project.Goals as goal

pub returns : goal.returns
returns c = proof.some_project
