use Rattle.std.proofs.Common.{◌≡◌, ◌-◌, ◌^◌, length, IfSome}
use Rattle.plan_components.proofs.NodeWalk.{Keeps}
use Rattle.plan_components.specs.Chosen.{selection_of}
use Rattle.plan_components.specs.Known.{IsKnown}
use Rattle.plan_components.specs.Places.{graph_of}
use Rattle.plan_components.proofs.reached.reach.Given as goal

-- the visited nodes, the ones yet to be visited, the places of needs, and the flags and places of the last package
abbrev pub invariant-loop-alloc : goal.invariant-loop-alloc
invariant-loop-alloc l = record {
  keeps : Keeps (selection_of l.chosen) l.set.keys l.needs;
  places : l.places ≡ graph_of l.set.keys l.needs;
  last : IfSome l.last (IsKnown (selection_of l.chosen));
}

-- there are no more nodes than numbers of 64 bits
abbrev pub decreases-loop-alloc : goal.decreases-loop-alloc
decreases-loop-alloc l = 2 ^ 64 - length l.needs
