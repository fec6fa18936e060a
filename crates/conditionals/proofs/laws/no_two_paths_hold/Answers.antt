use Rattle.conditionals.proofs.HoldingPaths as proof
use Rattle.conditionals.proofs.laws.no_two_paths_hold.Goals as goal

pub returns : goal.returns
returns c env cond want flags = proof.no_two_paths_hold env flags cond want
