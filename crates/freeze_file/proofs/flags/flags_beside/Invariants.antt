-- the flags so far
use Rattle.std.proofs.Common.{◌≡◌, map, take}
use Rattle.frozen_choices.specs.Frozen.{flag_beside}
use Rattle.freeze_file.proofs.flags.flags_beside.Given as goal

abbrev pub invariant-loop-flag : goal.invariant-loop-flag
invariant-loop-flag l = l.sets ≡ map (flag_beside l.names l.trail l.choice) (take l.flag-index l.flags)
