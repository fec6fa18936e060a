-- the keys lead to the variable begun with, and the starts of edges to the keys before the place are keys
use Rattle.std.proofs.Common.{◌+◌, ◌-◌, ◌∷◌, [], length}
use Rattle.std.specs.Prelude.{if◌then◌else◌}
use Rattle.choice_problem.specs.Conflict.{edges_of}
use Rattle.demand_cycles.specs.Side.{IsPartReached, reversed}
use Rattle.demand_cycles.proofs.cycles.reached.Given as goal

abbrev pub invariant-loop-place : goal.invariant-loop-place
invariant-loop-place g l =
    let all = edges_of (g.G.Graph.demands l.graph) in
    IsPartReached (if l.ahead then reversed all else all) (l.fn.begun ∷ []) l.found l.place

abbrev pub decreases-loop-place : goal.decreases-loop-place
decreases-loop-place g l =
    let all = edges_of (g.G.Graph.demands l.graph) in
    1 + length (if l.ahead then reversed all else all) - l.place
