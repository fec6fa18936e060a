use Rattle.std.proofs.Common.{[], ◌∷◌, ◌∙◌, subst, sym}
use Rattle.qualified_goals.specs.SameVariable.{same_var-is}
use Rattle.demand_cycles.specs.Side.{IsPartReached}
use Rattle.demand_cycles.proofs.Reached.{reached-none}
use Rattle.demand_cycles.proofs.side.Side.begin.Goals as goal

pub returns-then-is_same-clause-end : goal.returns-then-is_same-clause-end
returns-then-is_same-clause-end c = same_var-is c.args.self.now.end c.args.end (sym c.is_same.ensures ∙ c.if-is_same.true)

pub returns-clause-side : goal.returns-clause-side
returns-clause-side c edges h = subst (λ l. IsPartReached edges (c.args.end ∷ []) l 0) (sym c.begin.ensures) (reached-none edges (c.args.end ∷ []))
