-- the choices from a place on name each variable once, and the set has these variables
use Rattle.std.proofs.Common.{◌≡◌, ◌≤◌, drop, length, true}
use Rattle.qualified_goals.specs.declared.variable.Var.{Var}
use Rattle.choice_problem.specs.ConflictSet.{has}
use Rattle.choice_stack.specs.Stack.{are_naming, are_once}
use Rattle.choice_stack.proofs.growth.are_surely_once.Given as goal

abbrev pub invariant-loop-place : goal.invariant-loop-place
invariant-loop-place l = record {
  within : l.place ≤ length l.when;
  once : are_once (drop l.place l.when) ≡ true;
  vars : (v : Var) → has l.behind.keys v ≡ are_naming v (drop l.place l.when);
}

abbrev pub decreases-loop-place : goal.decreases-loop-place
decreases-loop-place l = l.place
