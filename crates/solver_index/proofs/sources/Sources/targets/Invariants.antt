-- the dependencies so far
use Rattle.std.proofs.Common.{◌≡◌, map, take}
use Rattle.plan_types.specs.declared.dependency.DepKind.TheVariants.{Setup}
use Rattle.solver_index.specs.Dependencies.{dep_target}
use Rattle.solver_index.specs.AllowedVersions.{allowed_versions}
use Rattle.solver_index.proofs.sources.Sources.targets.Given as goal

abbrev pub invariant-loop-dep : goal.invariant-loop-dep
invariant-loop-dep l = l.targets ≡ map (dep_target l.self.packages.now l.self.names.now (allowed_versions l.self.project.now l.owner) Setup) (take l.dep-index l.deps)
