use Rattle.std.proofs.Common.{◌≡◌, ◌++◌, take, map}
use Rattle.demand_agreement.specs.Clashes.{clash_of}
use Rattle.demand_agreement.proofs.agreement.push_pairs.Given as goal

abbrev pub invariant-loop-other : goal.invariant-loop-other
invariant-loop-other l = l.found.items ≡ l.fn.found.items ++ map (clash_of l.place) (take l.other-index l.others)
