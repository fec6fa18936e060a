-- the merged variables, followed by the union of the rests
use Rattle.std.proofs.Common.{◌≡◌, ◌++◌, ◌+◌, true, length}
use Rattle.choice_problem.specs.ConflictSet.{is_rising, union}
use Rattle.choice_problem.proofs.conflict_set.merged.Given as goal

abbrev pub invariant-loop-v : goal.invariant-loop-v
invariant-loop-v l = record {
  rising_left : is_rising l.left ≡ true;
  rising_right : is_rising l.right ≡ true;
  whole : l.both.items ++ union l.left l.right ≡ union l.fn.left l.fn.right;
}

abbrev pub decreases-loop-v : goal.decreases-loop-v
decreases-loop-v l = length l.left + length l.right
