-- those of the flags so far
use Rattle.std.proofs.Common.{◌≡◌, filter, map, take}
use Rattle.frozen_choices.specs.Frozen.{flag_beside, is_automatic}
use Rattle.freeze_file.proofs.flags.automatic_beside.Given as goal

abbrev pub invariant-loop-flag : goal.invariant-loop-flag
invariant-loop-flag l = l.sets ≡ map (flag_beside l.names l.trail l.choice) (filter (is_automatic l.names l.entries) (take l.flag-index l.flags))
