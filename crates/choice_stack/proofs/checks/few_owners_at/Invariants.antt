use Rattle.std.proofs.Common.{◌≡◌, ◌++◌, length}
use Rattle.choice_stack.specs.Stack.{AllBelow, demands_at, owners_of}
use Rattle.choice_stack.proofs.checks.few_owners_at.Given as goal

abbrev pub invariant-loop-place : goal.invariant-loop-place
invariant-loop-place l = record {
  found : owners_of (demands_at l.listed l.fn.places) ≡ l.owners.items ++ owners_of (demands_at l.listed l.place-iterator);
  within : AllBelow (length l.listed) l.place-iterator;
}
