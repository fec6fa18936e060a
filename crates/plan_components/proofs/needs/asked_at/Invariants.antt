-- the places so far
use Rattle.std.proofs.Common.{◌≡◌, take}
use Rattle.std.specs.Prelude.{filter}
use Rattle.plan_components.specs.Known.{means_at}
use Rattle.plan_components.proofs.needs.asked_at.Given as goal

abbrev pub invariant-loop-place : goal.invariant-loop-place
invariant-loop-place l = l.found ≡ filter (means_at l.dep l.components) (take l.place-index l.places)
