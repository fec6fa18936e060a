-- what the constraints so far require
use Rattle.std.proofs.Common.{take}
use Rattle.constraint_set.specs.Rules.{RulesAre}
use Rattle.constraint_set.proofs.rules.Rules.of.Given as goal

abbrev pub invariant-loop-constraint : goal.invariant-loop-constraint
invariant-loop-constraint l = RulesAre l.names (take l.constraint-index l.constraints) l.rules
