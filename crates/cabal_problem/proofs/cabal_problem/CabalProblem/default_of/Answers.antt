use Rattle.std.proofs.Math.Logic.{∥∥₁_elim}
use mathlib.Core.Bool.{Bool-set}
use Rattle.cabal_problem.proofs.cabal_problem.CabalProblem.default_of.Goals as goal

pub returns : goal.returns
returns c = ∥∥₁_elim c.args.self.now.defaults (Bool-set _ _) (λ defaults. c.default_of.ensures c.args.self.now.index.now.packages c.args.self.now.names defaults)
