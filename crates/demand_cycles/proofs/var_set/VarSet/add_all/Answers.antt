use Rattle.std.proofs.Common.{◌∙◌, arith}
use Rattle.demand_cycles.proofs.Keys.{one-added}
use Rattle.demand_cycles.proofs.var_set.VarSet.add_all.Goals as goal

pub loop-v-preserved : goal.loop-v-preserved
loop-v-preserved c = one-added c.loop-v.self c.args.vars.now c.add.new.self c.loop-v.v-index _ (omega arith) c.in_ok-add.ensures ∙ c.loop-v.invariant
