use Rattle.std.proofs.Common.{◌≡◌, take}
use Rattle.demand_agreement.specs.Places.{places_on}
use Rattle.validation.proofs.pending.PendingAsked.places_on.Given as goal

abbrev pub invariant-loop-place : goal.invariant-loop-place
invariant-loop-place l = l.found.items ≡ places_on l.v (take l.place l.self.active)
