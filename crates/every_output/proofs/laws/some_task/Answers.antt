use Rattle.every_output.proofs.Tasks as proof
use Rattle.every_output.proofs.laws.some_task.Goals as goal

pub returns : goal.returns
returns c = proof.some_task c.some_folder_project.ensures c.some_folder_index.ensures
