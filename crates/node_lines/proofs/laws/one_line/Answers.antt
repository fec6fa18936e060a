use Rattle.node_lines.proofs.OneLine.{one}
use Rattle.node_lines.proofs.laws.one_line.Goals as goal

pub returns : goal.returns
returns c selection node a b h k = one selection node a b h k
