use Rattle.std.proofs.Common.{append-nil}
use Rattle.choice_problem.proofs.values.Values.of.Goals as goal

pub returns : goal.returns
returns c = append-nil c.args.trail.now
