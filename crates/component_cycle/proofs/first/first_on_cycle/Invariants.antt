use Rattle.std.proofs.Common.{◌≡◌, ◌≢◌, ◌<◌, ℕ, [], None}
use Rattle.component_cycle.specs.declared.search.NodeState.TheVariants.{Unseen}
use Rattle.component_cycle.specs.Search.{IsSound, state}
use Rattle.component_cycle.proofs.first.first_on_cycle.Given as goal

abbrev pub invariant-loop-root : goal.invariant-loop-root
invariant-loop-root l =
    record {
      sound : IsSound l.needs l.search None;
      idle : l.search.marks ≡ [];
      seen : (v : ℕ) → v < l.root → state l.search v ≢ Unseen;
    }
