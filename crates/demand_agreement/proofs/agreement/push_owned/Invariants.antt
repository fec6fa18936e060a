use Rattle.std.proofs.Common.{◌≡◌, ◌++◌, take, filter}
use Rattle.demand_agreement.specs.Places.{demand_at}
use Rattle.demand_agreement.specs.Clashes.{is_first}
use Rattle.demand_agreement.proofs.agreement.push_owned.Given as goal

abbrev pub invariant-loop-place : goal.invariant-loop-place
invariant-loop-place g l =
    l.found.items ≡ l.fn.found.items ++ filter (λ k. is_first l.owner (demand_at (g.A.Asked.demands l.asked) k).when) (take l.place-index l.places)
