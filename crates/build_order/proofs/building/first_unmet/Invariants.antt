use Rattle.build_order.specs.Building.{AreMet}
use Rattle.build_order.proofs.building.first_unmet.Given as goal

abbrev pub invariant-loop-place : goal.invariant-loop-place
invariant-loop-place l = AreMet l.needs l.placed l.from l.place
