use Rattle.std.proofs.Common.{◌≡◌, ◌≢◌, ℕ, ◌<◌, List, length, get_or}
use Rattle.component_cycle.specs.declared.search.NodeState.TheVariants.{Unseen, Finished}
use Rattle.component_cycle.specs.Search.{costs}
use Rattle.component_cycle.proofs.search.finish_all.Given as goal

abbrev pub invariant-loop-node : goal.invariant-loop-node
invariant-loop-node l =
    record {
      count : length l.states ≡ length l.initial.states;
      settled : (i : ℕ) → i < l.node-index → get_or l.states (get_or l.nodes i 0) Unseen ≡ Finished l.on_cycle;
      others : (v : ℕ) → ((i : ℕ) → i < l.node-index → get_or l.nodes i 0 ≢ v) → get_or l.states v Unseen ≡ get_or l.initial.states v Unseen;
      seen : (v : ℕ) → get_or l.initial.states v Unseen ≢ Unseen → get_or l.states v Unseen ≢ Unseen;
      costs : (needs : List (List ℕ)) → length l.initial.states ≡ length needs → ((i : ℕ) → i < length l.nodes → get_or l.initial.states (get_or l.nodes i 0) Unseen ≢ Unseen) → costs needs l.states ≡ costs needs l.initial.states;
    }
