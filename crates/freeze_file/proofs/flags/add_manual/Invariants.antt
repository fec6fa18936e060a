-- the manual ones of the flags so far
use Rattle.std.proofs.Common.{◌≡◌, ◌||◌, ℕ, take}
use Rattle.freeze_file.specs.Steps.{has, is_manual_in}
use Rattle.freeze_file.proofs.flags.add_manual.Given as goal

abbrev pub invariant-loop-flag : goal.invariant-loop-flag
invariant-loop-flag l = (n : ℕ) → has l.manual n ≡ has l.initial.manual n || is_manual_in l.names (take l.flag-index l.flags) n
