use Rattle.std.proofs.Common.{◌≡◌, ◌++◌, length}
use Rattle.older_layout.specs.Relaid.{relaid_from, relaid}
use Rattle.older_layout.proofs.relaid.relaid.Given as goal

abbrev pub invariant-loop-rest : goal.invariant-loop-rest
invariant-loop-rest l = l.found.items ++ relaid_from l.state l.rest ≡ relaid l.lines

abbrev pub decreases-loop-rest : goal.decreases-loop-rest
decreases-loop-rest l = length l.rest
