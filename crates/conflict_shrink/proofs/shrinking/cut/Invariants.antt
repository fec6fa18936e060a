-- the choices so far, and those of the rest
use Rattle.std.proofs.Common.{◌≡◌, ◌++◌, drop}
use Rattle.conflict_shrink.specs.Shrinking.{cut}
use Rattle.conflict_shrink.proofs.shrinking.cut.Given as goal

abbrev pub invariant-loop-c : goal.invariant-loop-c
invariant-loop-c l = l.choices ++ cut l.set (drop l.c-index l.trail) ≡ cut l.set l.trail
