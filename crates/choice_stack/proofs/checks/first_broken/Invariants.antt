use Rattle.std.proofs.Common.{◌≡◌, drop, find}
use Rattle.choice_problem.specs.Conflict.{is_broken}
use Rattle.choice_stack.specs.Stack.{demands_at}
use Rattle.choice_stack.proofs.checks.first_broken.Given as goal

abbrev pub invariant-loop-place : goal.invariant-loop-place
invariant-loop-place l = find (is_broken l.trail) (demands_at l.listed l.places) ≡ find (is_broken l.trail) (demands_at l.listed (drop l.place-index l.places))
