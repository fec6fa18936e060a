-- the places so far, and the later ones
use Rattle.std.proofs.Common.{◌≡◌, ◌++◌, drop}
use Rattle.plan_components.specs.Steps.{is_wanted_among}
use Rattle.plan_components.specs.Wanted.{places, places_from}
use Rattle.plan_components.specs.Chosen.{selection_of}
use Rattle.plan_components.proofs.wanted.wanted_places.Given as goal

abbrev pub invariant-loop-place : goal.invariant-loop-place
invariant-loop-place l =
    let test = is_wanted_among (selection_of l.chosen) l.owner l.among in
    l.found ++ places_from l.place test (drop l.place l.components) ≡ places test l.components
