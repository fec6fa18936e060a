use Rattle.std.proofs.Common.{◌≡◌, length}
use Rattle.project_paths.specs.Patterns.{has}
use Rattle.project_paths.proofs.pattern.has.Given as goal

abbrev pub invariant-loop-rest : goal.invariant-loop-rest
invariant-loop-rest l = has l.part l.rest ≡ has l.part l.text

abbrev pub decreases-loop-rest : goal.decreases-loop-rest
decreases-loop-rest l = length l.rest
