-- the local packages so far
use Rattle.std.proofs.Common.{◌≡◌, map}
use Rattle.std.specs.List.{filter}
use Rattle.solver_index.specs.Places.{rising}
use Rattle.cabal_problem.specs.ListedDemands.{local_root}
use Rattle.plan_types.specs.Packages.{package_at}
use Rattle.cabal_problem.proofs.roots.local_roots.Given as goal

abbrev pub invariant-loop-place : goal.invariant-loop-place
invariant-loop-place l = l.roots ≡ map (local_root l.packages) (filter (λ p. (package_at l.packages p).local) (rising l.place))
