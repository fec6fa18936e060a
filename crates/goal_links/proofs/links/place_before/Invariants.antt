use Rattle.std.proofs.Common.{◌≡◌, length, true, IfSome}
use Rattle.qualified_goals.specs.Variable.{is_before}
use Rattle.goal_links.specs.Row.{StandsIn, behind}
use Rattle.goal_links.specs.Links.{var_at}
use Rattle.goal_links.proofs.links.place_before.Given as goal

abbrev pub invariant-loop-next : goal.invariant-loop-next
invariant-loop-next l = record {
  stands : StandsIn l.row.linked l.place;
  before : IfSome l.place (λ n. is_before (var_at l.vars n) l.v ≡ true);
}

abbrev pub decreases-loop-next : goal.decreases-loop-next
decreases-loop-next l = length (behind l.place l.row.linked)
