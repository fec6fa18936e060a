use Rattle.conditionals.proofs.HoldingPaths as proof
use Rattle.conditionals.proofs.laws.some_path_holds.Goals as goal

pub returns : goal.returns
returns c env cond want flags = proof.some_path_holds env flags cond want
