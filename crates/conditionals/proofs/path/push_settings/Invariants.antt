use Rattle.std.proofs.Common.{◌≡◌, ◌++◌, drop}
use Rattle.conditionals.proofs.path.push_settings.Given as goal

abbrev pub invariant-loop-setting : goal.invariant-loop-setting
invariant-loop-setting l = l.path ++ drop l.setting-index l.setting-items ≡ l.fn.path ++ l.next
