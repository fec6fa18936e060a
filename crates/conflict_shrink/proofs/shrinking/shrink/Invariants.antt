-- the shrinking from the current stage is the whole one
use Rattle.std.proofs.Common.{◌≡◌, ◌+◌, drop}
use Rattle.std.specs.Prelude.{IsTrue}
use Rattle.conflict_shrink.specs.Restricted.{are_known}
use Rattle.conflict_shrink.specs.Shrinking.{shrink_from, shrinking}
use Rattle.conflict_shrink.proofs.shrinking.shrink.Given as goal

abbrev pub invariant-loop-v : goal.invariant-loop-v
invariant-loop-v g l =
    let p = g.C.Choices.problem l.choices in
    record {
      known : IsTrue (are_known p l.stage.left);
      ended : (shrink_from p l.budget (drop l.v-index l.v-items) l.stage).ended ≡ (shrinking p l.set l.budget).ended;
      visited : l.steps + (shrink_from p l.budget (drop l.v-index l.v-items) l.stage).visited ≡ l.fn.steps + (shrinking p l.set l.budget).visited;
    }
