use Rattle.std.proofs.Common.{◌≡◌, take}
use Rattle.demand_agreement.specs.Clashes.{clashes}
use Rattle.demand_agreement.proofs.agreement.clashes.Given as goal

abbrev pub invariant-loop-place : goal.invariant-loop-place
invariant-loop-place g l = l.found.items ≡ clashes l.trail (g.A.Asked.demands l.asked) (take l.place-index l.places)
