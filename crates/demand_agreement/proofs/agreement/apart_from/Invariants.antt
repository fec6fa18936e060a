use Rattle.std.proofs.Common.{◌≡◌, take}
use Rattle.std.specs.List.{flat_map}
use Rattle.demand_agreement.specs.Clashes.{apart_by}
use Rattle.demand_agreement.proofs.agreement.apart_from.Given as goal

abbrev pub invariant-loop-twin : goal.invariant-loop-twin
invariant-loop-twin g l = l.found.items ≡ flat_map (apart_by l.trail (g.A.Asked.demands l.asked) l.target) (take l.twin-index l.twin-items)
