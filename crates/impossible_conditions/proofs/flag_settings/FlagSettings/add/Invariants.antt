use Rattle.std.proofs.Common.{◌≡◌, true}
use Rattle.conditionals.specs.Paths.{holds}
use Rattle.conditionals.specs.Value.{Flags}
use Rattle.impossible_conditions.specs.FlagSettings.{AreSet}
use Rattle.impossible_conditions.proofs.flag_settings.FlagSettings.add.Given as goal

abbrev pub invariant-loop-setting : goal.invariant-loop-setting
invariant-loop-setting l = (flags : Flags) → AreSet flags l.fn.self → holds flags l.settings ≡ true → AreSet flags l.self
