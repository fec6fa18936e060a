-- the nodes of the packages so far
use Rattle.std.proofs.Common.{◌≡◌, flat_map}
use Rattle.solver_index.specs.Places.{rising}
use Rattle.plan_components.specs.Wanted.{first_of}
use Rattle.plan_components.specs.Chosen.{selection_of}
use Rattle.plan_components.proofs.wanted.first_nodes.Given as goal

abbrev pub invariant-loop-place : goal.invariant-loop-place
invariant-loop-place l = l.nodes ≡ flat_map (first_of (selection_of l.chosen)) (rising l.place)
