use Rattle.std.proofs.Common.{◌≡◌, ◌≤◌, []}
use Rattle.build_order.specs.Building.{IsSound}
use Rattle.build_order.proofs.building.Building.new.Given as goal

abbrev pub invariant-loop-node : goal.invariant-loop-node
invariant-loop-node l =
    record {
      sound : IsSound l.needs (λ u. l.node ≤ u) l.building;
      order : l.building.order ≡ [];
    }
