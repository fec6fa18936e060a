-- the needs so far
use Rattle.std.proofs.Common.{◌≡◌, map}
use Rattle.solver_index.specs.Dependencies.{need_at}
use Rattle.solver_index.specs.Places.{rising}
use Rattle.solver_index.proofs.sources.Sources.needs.Given as goal

abbrev pub invariant-loop-place : goal.invariant-loop-place
invariant-loop-place l = l.needs ≡ map (need_at l.self.packages.now l.self.names.now l.ids l.names) (rising l.place)
