use Rattle.std.proofs.Common.{◌≡◌, ◌++◌, drop}
use Rattle.impossible_conditions.proofs.flag_settings.copied_settings.Given as goal

abbrev pub invariant-loop-setting : goal.invariant-loop-setting
invariant-loop-setting l = l.all ++ drop l.setting-index l.settings ≡ l.fn.settings
