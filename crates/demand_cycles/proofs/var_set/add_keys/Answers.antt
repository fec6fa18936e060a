use Rattle.std.proofs.Common.{◌∙◌, arith}
use Rattle.demand_cycles.proofs.Keys.{inserted, one-added}
use Rattle.demand_cycles.proofs.var_set.add_keys.Goals as goal

pub loop-v-preserved : goal.loop-v-preserved
loop-v-preserved c =
    one-added c.loop-v.keys.keys c.args.vars.now c.insert.new.self.keys c.loop-v.v-index _ (omega arith) (c.in_ok-insert.ensures.keys ∙ inserted c.loop-v.keys.keys _)
    ∙ c.loop-v.invariant
