-- the local packages, and the extra ones so far
use Rattle.std.proofs.Common.{◌≡◌, ◌++◌, map, take}
use Rattle.cabal_problem.specs.ListedDemands.{extra_root, local_roots}
use Rattle.cabal_problem.proofs.roots.roots_of.Given as goal

abbrev pub invariant-loop-named : goal.invariant-loop-named
invariant-loop-named l = l.roots ≡ local_roots l.packages ++ map (extra_root l.packages l.names) (take l.named-index l.extra)
