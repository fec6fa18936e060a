use Rattle.std.proofs.Common.{◌≡◌, ◌++◌, ◌≤◌, length, take}
use Rattle.choice_stack.specs.Growth.{mentions_at}
use Rattle.choice_stack.specs.Open.{StayKept, any_var}
use Rattle.choice_stack.proofs.growth.ready_goals.Given as goal

abbrev pub invariant-loop-place : goal.invariant-loop-place
invariant-loop-place l = record {
  said : l.goals.said ≡ l.initial.goals.said;
  linked : l.goals.row.linked ≡ l.initial.goals.row.linked;
  kept : StayKept any_var l.initial.goals.row l.goals.row;
  active : take l.count l.goals.spare ≡ take l.before l.initial.goals.spare ++ mentions_at l.first l.demands (take l.place-index l.places);
  within : l.count ≤ length l.goals.spare;
}
