use Rattle.elaborate.proofs.Whole.{lacks-none}
use Rattle.elaborate.proofs.laws.no_node_is_lacking.Goals as goal

pub returns : goal.returns
returns c = λ selection lines plan have. lacks-none selection lines plan have
