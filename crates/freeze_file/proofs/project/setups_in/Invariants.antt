-- the packages so far
use Rattle.std.proofs.Common.{◌≡◌, filter}
use Rattle.solver_index.specs.Places.{rising}
use Rattle.freeze_file.specs.Steps.{is_setup_in}
use Rattle.freeze_file.proofs.project.setups_in.Given as goal

abbrev pub invariant-loop-p : goal.invariant-loop-p
invariant-loop-p l = l.setups ≡ filter (is_setup_in l.choices) (rising l.p)
