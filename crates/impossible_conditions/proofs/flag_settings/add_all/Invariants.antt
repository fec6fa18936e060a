use Rattle.impossible_conditions.specs.FlagSettings.{AreEntries}
use Rattle.conditionals.specs.Value.{Flags}
use Rattle.impossible_conditions.proofs.flag_settings.add_all.Given as goal

-- flags have the settings of the map and the remaining ones
abbrev pub invariant-loop-name : goal.invariant-loop-name
invariant-loop-name l = (flags : Flags) → AreEntries flags l.fn.map.entries → AreEntries flags l.more.entries → AreEntries flags l.map.entries × AreEntries flags l.name-iterator
