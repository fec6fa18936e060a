-- the groups of the entries so far
use Rattle.std.proofs.Common.{◌≡◌, ℕ, List}
use Rattle.index_assembly.specs.Entries.{entries_named}
use Rattle.index_assembly.specs.Groups.{held}
use Rattle.index_assembly.proofs.groups.EntriesByName.of.Given as goal

abbrev pub invariant-loop-entry : goal.invariant-loop-entry
invariant-loop-entry l = (name : List ℕ) → held l.groups name ≡ entries_named name l.yielded
