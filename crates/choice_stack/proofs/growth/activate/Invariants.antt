use Rattle.std.proofs.Common.{◌≡◌, ◌++◌, drop, take}
use Rattle.choice_stack.specs.Open.{StayKept, is_chosen_in}
use Rattle.choice_stack.specs.Stack.{AreOpen}
use Rattle.choice_stack.proofs.growth.activate.Given as goal

abbrev pub invariant-loop : goal.invariant-loop
invariant-loop l = record {
  active : l.goals.said ≡ l.initial.goals.said ++ take l.counter l.initial.goals.spare;
  spare : l.goals.spare ≡ drop l.counter l.initial.goals.spare;
  opened : AreOpen l.goals.said l.trail l.goals.row.linked;
  kept : StayKept (is_chosen_in l.trail) l.initial.goals.row l.goals.row;
}
