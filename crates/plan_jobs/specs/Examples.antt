-- The definitions on a small plan.
use Rattle.std.specs.Prelude.{◌≡◌, Bool, true, false, ℕ, List, [], ◌∷◌, Ok, Err, codes, refl}
use Rattle.plan_nodes.specs.declared.node.NodeKind.{NodeKind}
use Rattle.plan_nodes.specs.declared.node.NodeKind.TheVariants.{Installed, Store}
use Rattle.plan_nodes.specs.declared.node.PlanNode.{PlanNode}
use Rattle.plan_jobs.specs.declared.job.JobFault.TheVariants.{NotRunning}
use Rattle.plan_jobs.specs.declared.job.JobState.TheVariants.{Waiting, Running, Completed, Failed}
use Rattle.plan_jobs.specs.Events.{completes, fails, starts, running_after, states_after, lists_id}

abbrev node : NodeKind → Bool → List ℕ → List (List ℕ) → PlanNode
node kind unbuildable id needs = record {
  kind = kind;
  name = id;
  version = record { parts = 1 ∷ [] };
  component = codes "lib";
  id = id;
  unbuildable = unbuildable;
  libs = needs;
  tools = [];
  setups = [];
}

-- `a` is installed; `b` and `c` need it, and `d` is unbuildable
abbrev nodes : List PlanNode
nodes = node Installed false (codes "a") (codes "x" ∷ []) ∷ node Store false (codes "b") (codes "a" ∷ []) ∷ node Store false (codes "c") (codes "a" ∷ [])
    ∷ node Store true (codes "d") [] ∷ []

at_first : states_after nodes [] ≡ Completed ∷ Waiting ∷ Waiting ∷ Failed ∷ []
at_first = refl

-- an accepted event counts, and a refused one doesn't
after_three : states_after nodes (starts (Ok 1) ∷ completes 2 (Err NotRunning) ∷ starts (Ok 2) ∷ []) ≡ Completed ∷ Running ∷ Running ∷ Failed ∷ []
after_three = refl

both_run : running_after nodes (starts (Ok 1) ∷ starts (Ok 2) ∷ []) ≡ 2
both_run = refl

after_both : states_after nodes (starts (Ok 1) ∷ starts (Ok 2) ∷ fails 2 (Ok tt) ∷ completes 1 (Ok tt) ∷ []) ≡ Completed ∷ Completed ∷ Failed ∷ Failed ∷ []
after_both = refl

-- an installed node needs nothing
there_wants_nothing : lists_id (node Installed false (codes "a") (codes "x" ∷ [])) (codes "x") ≡ false
there_wants_nothing = refl

wants_its_library : lists_id (node Store false (codes "b") (codes "a" ∷ [])) (codes "a") ≡ true
wants_its_library = refl
