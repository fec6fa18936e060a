-- The steps of making packages.
use Rattle.std.specs.Prelude.{◌≡◌, Bool, false, List, ◌++◌, map, flat_map}
use Rattle.plan_types.specs.declared.index.Entry.{Entry}
use Rattle.plan_types.specs.declared.index.Package.{Package}
use Rattle.outside_folder.specs.Files.{Bytes}
use Rattle.index_files.specs.declared.closure.FoundName.{FoundName}
use Rattle.index_assembly.specs.Entries.{is_unit_below, release_entries}
use Rattle.index_assembly.specs.Groups.{held}
use Rattle.index_assembly.specs.Index.{package_from, skipped_in}
use Rattle.index_assembly.specs.Order.{in_order}
use Rattle.index_assembly.specs.declared.groups.EntriesByName.{EntriesByName}
use Rattle.index_assembly.specs.declared.packages.GatheredPackages.{GatheredPackages}
use Rattle.plan_types.specs.Bytes.{same_text}

-- the package of a name; whether it is extra, its local entries and its units are looked up by name
abbrev pub package_by : (Bytes → Bool) → (Bytes → List Entry) → (Bytes → List Entry) → FoundName → Package
package_by is_asked own units found =
    package_from found.name (is_asked found.name) (own found.name) (release_entries found.releases ++ in_order is_unit_below (units found.name))

-- the same with the entries taken out for its name
abbrev pub package_with : (Bytes → Bool) → List Entry → List Entry → FoundName → Package
package_with is_asked own units found = package_by is_asked (λ name. own) (λ name. units) found

-- the entries of other names stay
abbrev pub KeepsOthers : Bytes → EntriesByName → EntriesByName → Type 0
KeepsOthers name old new = (other : Bytes) → same_text name other ≡ false → held new other ≡ held old other

-- the packages of these names, and their skipped files
pub record AreGathered (is_asked : Bytes → Bool) (own units : Bytes → List Entry) (found : List FoundName) (gathered : GatheredPackages) : Type 0 where
  pub packages : gathered.packages ≡ map (package_by is_asked own units) found
  pub skipped : gathered.skipped ≡ flat_map skipped_in found
