-- the places so far
use Rattle.std.proofs.Common.{◌≡◌, ◌++◌, ◌≤◌, max}
use Rattle.solver_index.specs.Places.{between}
use Rattle.solver_index.proofs.place_runs.push_places.Given as goal

abbrev pub invariant-loop-place : goal.invariant-loop-place
invariant-loop-place l = (l.places ≡ l.fn.places ++ between l.fn.run.from l.place) × (l.place ≤ max l.fn.run.from l.fn.run.to)
