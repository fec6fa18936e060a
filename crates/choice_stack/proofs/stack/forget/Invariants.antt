use Rattle.std.proofs.Common.{◌≡◌, take, length}
use Rattle.choice_stack.specs.Open.{StayKept, is_chosen_in}
use Rattle.choice_stack.specs.Stack.{AreOpen}
use Rattle.choice_stack.proofs.stack.forget.Given as goal

abbrev pub invariant-loop-goals : goal.invariant-loop-goals
invariant-loop-goals l = record {
  first : take l.len l.goals.said ≡ take l.len l.initial.goals.said;
  opened : AreOpen l.goals.said l.trail l.goals.row.linked;
  kept : StayKept (is_chosen_in l.trail) l.initial.goals.row l.goals.row;
}

abbrev pub decreases-loop-goals : goal.decreases-loop-goals
decreases-loop-goals l = length l.goals.said
