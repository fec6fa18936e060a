use Rattle.solver_index.proofs.Relaxed.{are-relaxed}
use Rattle.solver_index.proofs.laws.relaxed_ranges.Goals as goal

pub returns : goal.returns
returns c = are-relaxed
