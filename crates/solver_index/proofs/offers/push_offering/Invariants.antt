-- the places so far whose instances pass, without the last run of them
use Rattle.std.proofs.Common.{◌≡◌, ◌++◌, ◌≤◌, max}
use Rattle.std.specs.List.{filter}
use Rattle.solver_index.specs.Allowed.{has_at}
use Rattle.solver_index.specs.Places.{between}
use Rattle.solver_index.proofs.offers.push_offering.Given as goal

abbrev pub invariant-loop-place : goal.invariant-loop-place
invariant-loop-place l =
    (l.allowed ++ between l.first l.place ≡ l.fn.allowed ++ filter (has_at l.kind l.dep l.entries) (between l.fn.run.from l.place))
    × (l.fn.run.from ≤ l.first) × (l.first ≤ l.place) × (l.place ≤ max l.fn.run.from l.fn.run.to)
