use Rattle.std.proofs.Common.{◌∙◌, sym}
use Rattle.qualified_goals.specs.SameVariable.{same_var-is}
use Rattle.demand_cycles.proofs.side.Side.is_done.Goals as goal

pub returns-then-self-len-clause-end : goal.returns-then-self-len-clause-end
returns-then-self-len-clause-end c h = same_var-is c.args.self.now.end c.args.end (sym c.is_same.ensures ∙ h)
