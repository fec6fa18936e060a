-- the entries so far
use Rattle.std.proofs.Common.{◌≡◌, ◌++◌}
use Rattle.index_assembly.proofs.packages.joined.Given as goal

abbrev pub invariant-loop-unit : goal.invariant-loop-unit
invariant-loop-unit l = l.all ≡ l.fn.entries.items ++ l.yielded
