use Rattle.std.proofs.Common.{◌≡◌, ◌++◌, drop}
use Rattle.choice_problem.specs.Conflict.{edges_of}
use Rattle.demand_cycles.specs.Cycles.{owners_on_cycles}
use Rattle.demand_cycles.specs.Side.{IsSide}
use Rattle.demand_cycles.proofs.cycles.new_owners.Given as goal

abbrev pub invariant-loop-place : goal.invariant-loop-place
invariant-loop-place g l = let demands = g.G.Graph.demands l.graph in record {
  owners : l.owners.items ++ owners_on_cycles (edges_of demands) (drop l.place demands) ≡ owners_on_cycles (edges_of demands) (drop l.fn.before demands);
  back : IsSide (edges_of demands) l.back;
}
