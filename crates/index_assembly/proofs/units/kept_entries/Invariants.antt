-- the entries of the units so far that lack none
use Rattle.std.proofs.Common.{◌≡◌, ◌++◌, length, map}
use Rattle.std.specs.Vec.Iter.{into_iter_items}
use Rattle.index_assembly.specs.Entries.{unit_entry, unmarked}
use Rattle.index_assembly.proofs.units.kept_entries.Given as goal

abbrev pub invariant-loop-unit : goal.invariant-loop-unit
invariant-loop-unit l = record {
  all : l.yielded ++ into_iter_items l.unit-iterator ≡ l.fn.units;
  place : l.place ≡ length l.yielded;
  entries : l.entries ≡ map (unit_entry l.fn.units) (unmarked l.lacking l.yielded);
}
