-- the dependencies so far
use Rattle.std.proofs.Common.{◌≡◌, ◌++◌, flat_map, take}
use Rattle.cabal_problem.specs.ListedDemands.{has_stanzas}
use Rattle.cabal_problem.specs.Rows.{dep_row}
use Rattle.cabal_problem.proofs.demands.push_deps.Given as goal

abbrev pub invariant-loop-dep : goal.invariant-loop-dep
invariant-loop-dep l = l.found ≡ l.initial.found ++ flat_map (dep_row (has_stanzas l.packages l.owner.var) l.owner) (take l.dep-index l.deps)
