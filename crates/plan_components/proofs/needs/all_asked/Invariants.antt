-- the places so far, and the later ones
use Rattle.std.proofs.Common.{◌≡◌, ◌++◌, drop}
use Rattle.plan_components.specs.Needs.{means}
use Rattle.plan_components.specs.Wanted.{places, places_from}
use Rattle.plan_components.proofs.needs.all_asked.Given as goal

abbrev pub invariant-loop-place : goal.invariant-loop-place
invariant-loop-place l =
    l.found ++ places_from l.place (means l.dep.kind l.dep) (drop l.place l.components) ≡ places (means l.dep.kind l.dep) l.components
