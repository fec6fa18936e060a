use Rattle.every_reading.proofs.Trees as proof
use Rattle.every_reading.proofs.file_laws.some_tree.Goals as goal

pub returns : goal.returns
returns c = proof.some_tree
