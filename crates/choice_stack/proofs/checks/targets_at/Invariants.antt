use Rattle.std.proofs.Common.{◌≡◌, take}
use Rattle.choice_stack.specs.Stack.{demands_at, targets_by}
use Rattle.choice_stack.proofs.checks.targets_at.Given as goal

abbrev pub invariant-loop-place : goal.invariant-loop-place
invariant-loop-place l = l.targets.items ≡ targets_by l.owner (demands_at l.listed (take l.place-index l.places))
