use Rattle.std.proofs.Common.{◌≡◌, drop}
use Rattle.demand_agreement.specs.Clashes.{least_from, least}
use Rattle.demand_agreement.proofs.clash.least.Given as goal

abbrev pub invariant-loop-c : goal.invariant-loop-c
invariant-loop-c l = least_from l.first (drop l.c-index l.clashes) ≡ least l.clashes
