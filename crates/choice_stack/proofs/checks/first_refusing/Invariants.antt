use Rattle.std.proofs.Common.{◌≡◌, length, find}
use Rattle.choice_problem.specs.Conflict.{refuses}
use Rattle.choice_stack.specs.Stack.{AllBelow, demands_at}
use Rattle.choice_stack.proofs.checks.first_refusing.Given as goal

abbrev pub invariant-loop-place : goal.invariant-loop-place
invariant-loop-place l = record {
  found : find (refuses l.c) (demands_at l.listed l.fn.places) ≡ find (refuses l.c) (demands_at l.listed l.place-iterator);
  within : AllBelow (length l.listed) l.place-iterator;
}
