-- the set with the variables so far
use Rattle.std.proofs.Common.{◌≡◌, ◌≤◌, ◌++◌, drop, length}
use Rattle.choice_problem.specs.ConflictSet.{set_of}
use Rattle.choice_problem.proofs.conflict_set.add_all.Given as goal

abbrev pub invariant-loop-place : goal.invariant-loop-place
invariant-loop-place l = record { within : l.place ≤ length l.vars; set : l.set.items ≡ set_of (drop l.place l.vars ++ l.initial.set.items) }

abbrev pub decreases-loop-place : goal.decreases-loop-place
decreases-loop-place l = l.place
