use Rattle.std.proofs.Common.{◌≡◌, ◌≤◌, length, Some}
use Rattle.component_cycle.specs.declared.search.NodeState.TheVariants.{OnPath}
use Rattle.component_cycle.specs.Search.{IsSound, AllReach, state}
use Rattle.component_cycle.proofs.search.Search.look_at.Given as goal

abbrev pub invariant-loop-self : goal.invariant-loop-self
invariant-loop-self l =
    record {
      sound : IsSound l.needs l.self (Some l.node);
      leads : AllReach l.needs l.self l.node;
      here : state l.self l.node ≡ OnPath l.place;
      states : l.self.states ≡ l.initial.self.states;
      waiting : l.self.waiting ≡ l.initial.self.waiting;
      marks : length l.self.marks ≤ length l.initial.self.marks;
    }

abbrev pub decreases-loop-self : goal.decreases-loop-self
decreases-loop-self l = length l.self.marks
