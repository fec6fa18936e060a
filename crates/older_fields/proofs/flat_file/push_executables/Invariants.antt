use Rattle.std.proofs.Common.{◌≡◌, ◌++◌, length}
use Rattle.older_fields.specs.Flat.{executables}
use Rattle.older_fields.proofs.flat_file.push_executables.Given as goal

abbrev pub invariant-loop-rest : goal.invariant-loop-rest
invariant-loop-rest l = l.out ++ executables l.front l.rest ≡ l.initial.out ++ executables l.front l.items

abbrev pub decreases-loop-rest : goal.decreases-loop-rest
decreases-loop-rest l = length l.rest
