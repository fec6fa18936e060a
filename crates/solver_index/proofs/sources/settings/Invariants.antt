-- the literals so far
use Rattle.std.proofs.Common.{◌≡◌, map, take}
use Rattle.solver_index.specs.Dependencies.{setting_of}
use Rattle.solver_index.proofs.sources.settings.Given as goal

abbrev pub invariant-loop-literal : goal.invariant-loop-literal
invariant-loop-literal l = l.when ≡ map (setting_of l.names) (take l.literal-index l.literals)
