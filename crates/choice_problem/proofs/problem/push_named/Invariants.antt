use Rattle.std.proofs.Common.{◌≡◌, ◌++◌, drop}
use Rattle.choice_problem.specs.Conflict.{named_by}
use Rattle.choice_problem.specs.Active.{vars_of}
use Rattle.choice_problem.proofs.problem.push_named.Given as goal

abbrev pub invariant-loop-c : goal.invariant-loop-c
invariant-loop-c l = l.named.items ++ vars_of (drop l.c-index l.c-items) ≡ l.fn.named.items ++ named_by l.demand
