-- the variables so far are on rings
use Rattle.std.proofs.Common.{take}
use Rattle.choice_problem.specs.Conflict.{edges_of}
use Rattle.demand_cycles.specs.Ring.{AreRings}
use Rattle.demand_cycles.proofs.cycles.rings_of.Given as goal

abbrev pub invariant-loop-v : goal.invariant-loop-v
invariant-loop-v g l = AreRings (edges_of (g.G.Graph.demands l.graph)) (take l.v-index l.vars) l.rings.items
