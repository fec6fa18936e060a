use Rattle.std.proofs.Common.{◌≡◌, drop}
use Rattle.conditionals.specs.Value.{flag_in}
use Rattle.conditionals.proofs.value.setting.Given as goal

abbrev pub invariant-loop-flag : goal.invariant-loop-flag
invariant-loop-flag l = flag_in (drop l.flag-index l.flag-items) l.name ≡ flag_in l.flags l.name
