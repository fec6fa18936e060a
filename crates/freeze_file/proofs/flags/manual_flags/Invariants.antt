-- the manual flags of the instances so far
use Rattle.std.proofs.Common.{◌≡◌, ℕ, take}
use Rattle.frozen_choices.specs.Frozen.{is_manual}
use Rattle.freeze_file.specs.Steps.{has}
use Rattle.freeze_file.proofs.flags.manual_flags.Given as goal

abbrev pub invariant-loop-entry : goal.invariant-loop-entry
invariant-loop-entry l = (f : ℕ) → has l.manual f ≡ is_manual l.names (take l.entry-index l.entries) f
