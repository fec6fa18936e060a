use Rattle.std.proofs.Common.{◌≡◌, ◌++◌, length, filter}
use Rattle.choice_problem.specs.Assignment.{is_yes}
use Rattle.choice_problem.specs.Trail.{value_in}
use Rattle.choice_stack.specs.Stack.{AllBelow, demand_at}
use Rattle.choice_stack.proofs.checks.yes_among.Given as goal

abbrev pub invariant-loop-place : goal.invariant-loop-place
invariant-loop-place l = record {
  found :
      filter (λ k. is_yes (value_in l.trail) (demand_at l.listed k)) l.fn.places
      ≡ l.found.items ++ filter (λ k. is_yes (value_in l.trail) (demand_at l.listed k)) l.place-iterator;
  within : AllBelow (length l.listed) l.place-iterator;
}
