-- the flags so far, and the rest
use Rattle.std.proofs.Common.{◌≡◌, ◌++◌, drop}
use Rattle.std.specs.List.{flat_map}
use Rattle.freeze_text.specs.Text.{flag_text}
use Rattle.freeze_text.proofs.text.push_flags.Given as goal

abbrev pub invariant-loop-set : goal.invariant-loop-set
invariant-loop-set l = l.text ++ flat_map flag_text (drop l.set-index l.sets) ≡ l.fn.text ++ flat_map flag_text l.sets
