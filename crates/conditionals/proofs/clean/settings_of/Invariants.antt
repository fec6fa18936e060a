use Rattle.std.proofs.Common.{◌≡◌, ◌++◌, map}
use Rattle.conditionals.specs.Settings.{setting_of}
use Rattle.conditionals.proofs.clean.settings_of.Given as goal

abbrev pub invariant-loop-name : goal.invariant-loop-name
invariant-loop-name l = l.settings ++ map setting_of l.name-iterator ≡ map setting_of l.fn.kept.entries
