use Rattle.std.proofs.Common.{◌≡◌, ◌++◌, take}
use Rattle.cabal_problem.specs.Values.{others}
use Rattle.cabal_problem.proofs.values.with_others.Given as goal

abbrev pub invariant-loop-n : goal.invariant-loop-n
invariant-loop-n l = l.all.items ≡ l.first ++ others l.first (take l.n-index l.order)
