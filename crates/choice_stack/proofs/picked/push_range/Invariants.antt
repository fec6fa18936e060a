use Rattle.std.proofs.Common.{◌≡◌, ◌-◌, ◌++◌}
use Rattle.choice_stack.specs.Stack.{rising_from}
use Rattle.choice_stack.proofs.picked.push_range.Given as goal

abbrev pub invariant-loop-place : goal.invariant-loop-place
invariant-loop-place l = l.places.items ++ rising_from l.place (l.fn.to - l.place) ≡ l.fn.places.items ++ rising_from l.fn.from (l.fn.to - l.fn.from)
