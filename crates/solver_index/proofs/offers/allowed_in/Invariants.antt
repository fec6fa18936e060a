-- the places so far whose versions are in the range
use Rattle.std.proofs.Common.{◌≡◌}
use Rattle.std.specs.List.{filter}
use Rattle.plan_types.specs.Members.{members}
use Rattle.solver_index.specs.Places.{rising, entry_at}
use Rattle.solver_index.proofs.offers.allowed_in.Given as goal

abbrev pub invariant-loop-place : goal.invariant-loop-place
invariant-loop-place l = l.allowed ≡ filter (λ i. members l.range (entry_at l.entries i).instance.version) (rising l.place)
