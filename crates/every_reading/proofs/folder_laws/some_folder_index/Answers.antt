use Rattle.every_reading.proofs.Folders as proof
use Rattle.every_reading.proofs.folder_laws.some_folder_index.Goals as goal

pub returns : goal.returns
returns c = proof.some_folder_index
