-- the places of the runs so far
use Rattle.std.proofs.Common.{◌≡◌, take}
use Rattle.solver_index.specs.PlaceRuns.{places_in}
use Rattle.solver_index.proofs.place_runs.PlaceRuns.places.Given as goal

abbrev pub invariant-loop-run : goal.invariant-loop-run
invariant-loop-run l = l.places ≡ places_in (take l.run-index l.run-items)
