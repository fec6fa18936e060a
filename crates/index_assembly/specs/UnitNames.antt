-- The kept ids and names of units.
use Rattle.std.specs.Prelude.{◌≡◌, List, map}
use Rattle.index_files.specs.Units.{unit_ids, unit_name}
use Rattle.index_files.specs.declared.unit.Unit.{Unit}
use Rattle.index_assembly.specs.declared.unit_names.UnitNames.{UnitNames}

-- the kept ids and names are those of these units
pub record Knows (units : List Unit) (known : UnitNames) : Type 0 where
  pub ids : known.ids.keys ≡ unit_ids units
  pub names : known.names ≡ map unit_name units
