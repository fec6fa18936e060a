-- the search stays one against the edges, to the same end
use Rattle.std.proofs.Common.{◌≡◌, ◌-◌}
use Rattle.choice_problem.specs.Conflict.{edges_of}
use Rattle.demand_cycles.specs.Side.{IsSide}
use Rattle.demand_cycles.proofs.cycles.search_near.Given as goal

abbrev pub invariant-loop-alloc : goal.invariant-loop-alloc
invariant-loop-alloc g l = record {
  back : IsSide (edges_of (g.G.Graph.demands l.graph)) l.back;
  end : l.back.end ≡ l.initial.back.end;
}

abbrev pub decreases-loop-alloc : goal.decreases-loop-alloc
decreases-loop-alloc g l = 9 - l.back.place
