use Rattle.std.proofs.Common.{◌≡◌, take}
use Rattle.cabal_problem.specs.Values.{each_once}
use Rattle.cabal_problem.proofs.values.each_once.Given as goal

abbrev pub invariant-loop-n : goal.invariant-loop-n
invariant-loop-n l = l.found.items ≡ each_once (take l.n-index l.values)
