-- the dependencies so far
use Rattle.std.proofs.Common.{◌≡◌, map, take}
use Rattle.solver_index.specs.Dependencies.{conditional_dep}
use Rattle.solver_index.specs.AllowedVersions.{allowed_versions}
use Rattle.solver_index.proofs.sources.Sources.conditional_deps.Given as goal

abbrev pub invariant-loop-flat : goal.invariant-loop-flat
invariant-loop-flat l = l.deps ≡ map (conditional_dep l.self.packages.now l.self.names.now (allowed_versions l.self.project.now l.owner)) (take l.flat-index l.flats)
