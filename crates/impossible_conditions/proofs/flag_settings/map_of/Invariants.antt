use Rattle.std.proofs.Common.{◌≡◌, true}
use Rattle.conditionals.specs.Paths.{holds}
use Rattle.conditionals.specs.Value.{Flags}
use Rattle.impossible_conditions.specs.FlagSettings.{HasEntries}
use Rattle.impossible_conditions.proofs.flag_settings.map_of.Given as goal

abbrev pub invariant-loop-setting : goal.invariant-loop-setting
invariant-loop-setting l = (flags : Flags) → holds flags l.settings ≡ true → HasEntries flags l.map
