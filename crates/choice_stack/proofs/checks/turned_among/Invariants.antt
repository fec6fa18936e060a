use Rattle.std.proofs.Common.{◌≡◌, take, length}
use Rattle.choice_stack.specs.Stack.{AllBelow, demands_at, turned}
use Rattle.choice_stack.proofs.checks.turned_among.Given as goal

abbrev pub invariant-loop-place : goal.invariant-loop-place
invariant-loop-place l = record {
  found : demands_at l.demands l.found.items ≡ turned l.trail l.v (take l.place l.demands);
  within : AllBelow (length l.demands) l.found.items;
}
