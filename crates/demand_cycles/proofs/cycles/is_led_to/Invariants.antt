-- both sides are searches: one from its start, and the other to its end
use Rattle.std.proofs.Common.{◌≡◌, ◌+◌, ◌-◌, length}
use Rattle.choice_problem.specs.Conflict.{edges_of}
use Rattle.demand_cycles.specs.Side.{IsSide, reversed}
use Rattle.demand_cycles.proofs.cycles.is_led_to.Given as goal

abbrev pub invariant-loop-alloc : goal.invariant-loop-alloc
invariant-loop-alloc g l = let edges = edges_of (g.G.Graph.demands l.graph) in record {
  ahead : IsSide (reversed edges) l.ahead;
  begun : l.ahead.end ≡ l.fn.from;
  back : IsSide edges l.back;
  end : l.back.end ≡ l.initial.back.end;
}

abbrev pub decreases-loop-alloc : goal.decreases-loop-alloc
decreases-loop-alloc g l = let edges = edges_of (g.G.Graph.demands l.graph) in (1 + length edges - l.ahead.place) + (1 + length edges - l.back.place)
