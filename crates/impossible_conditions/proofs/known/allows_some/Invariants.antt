use Rattle.std.proofs.Common.{◌≡◌, true, drop}
use Rattle.std.specs.List.{list_any}
use Rattle.conditionals.specs.Paths.{holds}
use Rattle.conditionals.specs.Value.{Flags}
use Rattle.impossible_conditions.specs.FlagSettings.{AreSet}
use Rattle.impossible_conditions.proofs.known.allows_some.Given as goal

-- a path that holds is among the remaining ones
abbrev pub invariant-loop-path : goal.invariant-loop-path
invariant-loop-path l = (flags : Flags) → AreSet flags l.required → list_any (holds flags) l.paths ≡ true → list_any (holds flags) (drop l.path-index l.paths) ≡ true
