use Rattle.std.proofs.Common.{◌≡◌, ◌++◌, take}
use Rattle.choice_stack.specs.Stack.{demands_at, sources_on}
use Rattle.choice_stack.proofs.checks.push_owners_on.Given as goal

abbrev pub invariant-loop-place : goal.invariant-loop-place
invariant-loop-place l = l.owners.items ≡ l.initial.owners.items ++ sources_on l.to (demands_at l.listed (take l.place-index l.places))
