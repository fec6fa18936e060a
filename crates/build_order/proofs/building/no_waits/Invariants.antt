use Rattle.std.proofs.Common.{◌≡◌, replicate, []}
use Rattle.build_order.proofs.building.no_waits.Given as goal

abbrev pub invariant-loop : goal.invariant-loop
invariant-loop l = l.waits.items ≡ replicate l.counter []
