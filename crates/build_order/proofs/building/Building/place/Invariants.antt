use Rattle.std.proofs.Common.{◌≡◌, true, length, set}
use Rattle.std.specs.Prelude.{Contains}
use Rattle.build_order.specs.declared.building.Wait.{Wait}
use Rattle.build_order.specs.Building.{IsSound, IsMetBefore}
use Rattle.build_order.proofs.OrderInvariant.{IsIn}
use Rattle.build_order.proofs.building.Building.place.Given as goal

abbrev pub invariant-loop-wait : goal.invariant-loop-wait
invariant-loop-wait l =
    record {
      sound : IsSound l.needs (IsIn l.waits) l.self;
      met : (w : Wait) → Contains l.waits w → IsMetBefore l.needs l.self.order w.node w.place;
      marks : l.self.placed ≡ set l.fn.self.placed l.node true;
    }

abbrev pub decreases-loop-wait : goal.decreases-loop-wait
decreases-loop-wait l = length l.waits
