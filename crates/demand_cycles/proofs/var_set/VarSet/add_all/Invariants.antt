use Rattle.std.proofs.Common.{◌≡◌, drop}
use Rattle.demand_cycles.specs.VarSet.{with_keys}
use Rattle.demand_cycles.proofs.var_set.VarSet.add_all.Given as goal

abbrev pub invariant-loop-v : goal.invariant-loop-v
invariant-loop-v l = with_keys l.self (drop l.v-index l.vars) ≡ with_keys l.initial.self l.vars
