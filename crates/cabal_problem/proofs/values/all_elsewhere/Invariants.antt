use Rattle.std.proofs.Common.{◌≡◌, take, map}
use Rattle.cabal_problem.specs.Values.{elsewhere}
use Rattle.cabal_problem.proofs.values.all_elsewhere.Given as goal

abbrev pub invariant-loop-c : goal.invariant-loop-c
invariant-loop-c l = l.found.items ≡ map (λ c. c.val) (elsewhere l.v (take l.c-index l.choices))
