use Rattle.std.proofs.Common.{◌≡◌, length, true, IfSome}
use Rattle.qualified_goals.specs.Variable.{is_before}
use Rattle.goal_links.specs.Row.{StandsIn, behind}
use Rattle.goal_links.specs.Links.{var_at}
use Rattle.goal_links.proofs.links.start.Given as goal

abbrev pub invariant-loop-ahead : goal.invariant-loop-ahead
invariant-loop-ahead l = record {
  stands : StandsIn l.row.linked l.place;
  before : IfSome l.place (λ n. is_before (var_at l.vars n) l.v ≡ true);
  back : StandsIn l.row.linked l.back;
}

abbrev pub decreases-loop-ahead : goal.decreases-loop-ahead
decreases-loop-ahead l = length (behind l.place l.row.linked)
