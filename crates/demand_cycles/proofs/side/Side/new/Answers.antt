use Rattle.std.proofs.Common.{[], ◌∷◌, subst, sym}
use Rattle.demand_cycles.specs.Side.{IsPartReached}
use Rattle.demand_cycles.proofs.Reached.{reached-none}
use Rattle.demand_cycles.proofs.side.Side.new.Goals as goal

pub returns-clause-begun : goal.returns-clause-begun
returns-clause-begun c edges = subst (λ l. IsPartReached edges (c.args.end ∷ []) l 0) (sym c.of.ensures) (reached-none edges (c.args.end ∷ []))
