use Rattle.std.proofs.Common.{◌≤◌, ℕ, List}
use Rattle.plan_nodes.specs.declared.node.PlanNode.{PlanNode}
use Rattle.plan_jobs.specs.Events.{Event}
use Rattle.plan_jobs.specs.Board.{AreAfter}
use Rattle.replay_text.specs.Replay.{IsCount, HasEndState}
use Rattle.replay_text.proofs.standing.count_of.Given as goal

abbrev pub invariant-loop-place : goal.invariant-loop-place
invariant-loop-place l =
    record {
      few : l.count ≤ l.place;
      counted : (plan : List PlanNode) (slots : ℕ) (events : List Event) → AreAfter plan slots events l.jobs → IsCount (λ place. HasEndState plan events place l.standing) l.place l.count;
    }
