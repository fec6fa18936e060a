-- the packages so far
use Rattle.std.proofs.Common.{◌≡◌, flat_map}
use Rattle.frozen_choices.specs.Frozen.{frozen_package}
use Rattle.solver_index.specs.Places.{rising}
use Rattle.freeze_file.proofs.project.frozen.Given as goal

abbrev pub invariant-loop-p : goal.invariant-loop-p
invariant-loop-p l = l.constraints ≡ flat_map (frozen_package l.packages l.names l.choices) (rising l.p)
