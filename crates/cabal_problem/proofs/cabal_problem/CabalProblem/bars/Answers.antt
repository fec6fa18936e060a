use Rattle.std.proofs.Math.Logic.{∥∥₁_elim}
use mathlib.Core.Bool.{Bool-set}
use Rattle.cabal_problem.proofs.cabal_problem.CabalProblem.bars.Goals as goal

pub returns : goal.returns
returns c = ∥∥₁_elim c.args.self.now.stands (Bool-set _ _) (λ stands. c.bars.ensures c.args.self.now.settings.now.project c.args.self.now.names stands)
