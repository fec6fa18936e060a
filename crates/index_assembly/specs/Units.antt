-- The entries of units.
use Rattle.std.specs.Prelude.{◌≡◌, Bool, List}
use Rattle.plan_types.specs.declared.index.Entry.{Entry}
use Rattle.index_files.specs.declared.unit.Unit.{Unit}
use Rattle.index_assembly.specs.Entries.{unit_entries}
use Rattle.index_assembly.specs.Lacks.{AreLacking}

-- the entries of the units that lack none
pub record AreEntriesOf (units : List Unit) (entries : List Entry) : Type 0 where
  pub lacking : List Bool
  pub lacks : AreLacking units lacking
  pub entries_are : entries ≡ unit_entries lacking units
