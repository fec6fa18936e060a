use Rattle.std.proofs.Common.{◌≡◌, ◌++◌, drop}
use Rattle.std.specs.Prelude.{flat_map, filter}
use Rattle.choice_problem.specs.Conflict.{edges_of, named_by, lies_on_cycle, circular}
use Rattle.demand_cycles.proofs.cycles.named_on_cycles.Given as goal

abbrev pub invariant-loop-place : goal.invariant-loop-place
invariant-loop-place g l =
    let demands = g.G.Graph.demands l.graph in
    l.named.items ++ flat_map named_by (filter (lies_on_cycle (edges_of demands)) (drop l.place demands)) ≡ flat_map named_by (circular demands)
