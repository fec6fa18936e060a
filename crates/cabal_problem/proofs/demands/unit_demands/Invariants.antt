-- the needs so far
use Rattle.std.proofs.Common.{◌≡◌, map, take}
use Rattle.cabal_problem.specs.Rows.{need_demand}
use Rattle.cabal_problem.proofs.demands.unit_demands.Given as goal

abbrev pub invariant-loop-need : goal.invariant-loop-need
invariant-loop-need l = l.found ≡ map (need_demand l.owner) (take l.need-index l.needs)
