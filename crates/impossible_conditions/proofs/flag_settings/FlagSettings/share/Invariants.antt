use Rattle.std.proofs.Common.{length}
use Rattle.conditionals.specs.Value.{Flags}
use Rattle.impossible_conditions.specs.FlagSettings.{AreSet, HasEntries}
use Rattle.impossible_conditions.proofs.flag_settings.FlagSettings.share.Given as goal

-- flags have the settings of the remaining maps and of the new one
abbrev pub invariant-loop-last : goal.invariant-loop-last
invariant-loop-last l = (flags : Flags) → AreSet flags l.fn.self → AreSet flags l.self × HasEntries flags l.map

abbrev pub decreases-loop-last : goal.decreases-loop-last
decreases-loop-last l = length l.self.shared
