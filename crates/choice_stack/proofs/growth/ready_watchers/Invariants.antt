use Rattle.std.proofs.Common.{◌≡◌, ◌≤◌, length, take}
use Rattle.choice_stack.specs.Stack.{watchers_from}
use Rattle.choice_stack.proofs.growth.ready_watchers.Given as goal

abbrev pub invariant-loop-index : goal.invariant-loop-index
invariant-loop-index l = record {
  said : l.watchers.said ≡ l.initial.watchers.said;
  waiting : take l.count l.watchers.spare ≡ watchers_from l.first (take l.index l.demands);
  within : l.count ≤ length l.watchers.spare;
}
