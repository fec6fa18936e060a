use Rattle.std.proofs.Common.{◌≡◌, ◌++◌, ◌≤◌, true, length, take}
use Rattle.choice_stack.specs.Stack.{are_once, watchers_by}
use Rattle.choice_stack.proofs.growth.ready_watchers_of.Given as goal

abbrev pub invariant-loop-rest : goal.invariant-loop-rest
invariant-loop-rest l = record {
  said : l.watchers.said ≡ l.initial.watchers.said;
  waiting : take l.count l.watchers.spare ++ watchers_by l.place l.rest ≡ take l.before l.initial.watchers.spare ++ watchers_by l.place l.fn.when;
  within : l.count ≤ length l.watchers.spare;
  once : l.once ≡ true → are_once l.rest ≡ true;
}

abbrev pub decreases-loop-rest : goal.decreases-loop-rest
decreases-loop-rest l = length l.rest
