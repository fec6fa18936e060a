-- the allowed places of the runs so far
use Rattle.std.proofs.Common.{◌≡◌, take}
use Rattle.std.specs.List.{filter}
use Rattle.solver_index.specs.Allowed.{has_at}
use Rattle.solver_index.specs.PlaceRuns.{places_in}
use Rattle.solver_index.proofs.offers.allowed_of.Given as goal

abbrev pub invariant-loop-run : goal.invariant-loop-run
invariant-loop-run l = l.allowed ≡ filter (has_at l.kind l.dep l.entries) (places_in (take l.run-index l.runs))
