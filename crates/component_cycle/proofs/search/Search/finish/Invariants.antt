use Rattle.std.proofs.Common.{◌≢◌, ℕ, None}
use Rattle.component_cycle.specs.declared.search.NodeState.TheVariants.{Unseen}
use Rattle.component_cycle.specs.Search.{IsSound, state, to_do}
use Rattle.component_cycle.proofs.search.Search.finish.Given as goal

abbrev pub invariant-loop-mark : goal.invariant-loop-mark
invariant-loop-mark l =
    record {
      sound : IsSound l.needs l.self None;
      root : state l.self l.root ≢ Unseen;
      seen : (v : ℕ) → state l.fn.self v ≢ Unseen → state l.self v ≢ Unseen;
    }

abbrev pub decreases-loop-mark : goal.decreases-loop-mark
decreases-loop-mark l = to_do l.needs l.self
