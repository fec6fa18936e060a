-- the packages so far
use Rattle.std.proofs.Common.{◌≡◌, map, take}
use Rattle.plan_types.specs.declared.index.Package.{Package}
use Rattle.solver_index.specs.Dependencies.{entry_dependencies}
use Rattle.solver_index.proofs.sources.Sources.dependencies.Given as goal

abbrev pub invariant-loop-found : goal.invariant-loop-found
invariant-loop-found l = l.dependencies ≡ map (λ (p : Package). map (entry_dependencies l.self.packages.now l.self.project.now l.self.names.now) p.entries) (take l.found-index l.self.packages.now)
