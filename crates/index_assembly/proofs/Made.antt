-- The index of the gathered packages.
use Rattle.std.proofs.Common.{◌≡◌, Bool, List, ◌++◌, map, ◌∙◌, ap}
use Rattle.std.specs.Prelude.{flat_map}
use Rattle.plan_types.specs.declared.dependency.Named.{Named}
use Rattle.plan_types.specs.declared.index.Entry.{Entry}
use Rattle.plan_types.specs.declared.index.Index.{Index}
use Rattle.plan_types.specs.declared.index.Warning.{Warning}
use Rattle.outside_folder.specs.Files.{Bytes}
use Rattle.index_files.specs.declared.readings.Readings.{Readings}
use Rattle.index_assembly.specs.Entries.{entries_named, is_unit_below, local_entries, release_entries, unit_entries}
use Rattle.index_assembly.specs.Index.{IsIndexOf, is_extra, is_package_below, is_path_below, package_from, package_of, warnings_of}
use Rattle.index_assembly.specs.Order.{in_order}
use Rattle.index_assembly.specs.Packages.{AreGathered, package_by}
use Rattle.index_assembly.specs.Units.{AreEntriesOf}
use Rattle.index_assembly.specs.declared.packages.GatheredPackages.{GatheredPackages}
use Rattle.index_assembly.proofs.Gathering.{map_same}

module _ (extra : List Named) (readings : Readings) (is_asked : Bytes → Bool) (own units : Bytes → List Entry) (locals entries : List Entry) (warnings : List Warning) (gathered : GatheredPackages)
    (locals_are : locals ≡ local_entries readings.locals) (kept : AreEntriesOf readings.units entries)
    (owned : (name : Bytes) → own name ≡ entries_named name locals) (held : (name : Bytes) → units name ≡ entries_named name entries)
    (asked : (name : Bytes) → is_asked name ≡ is_extra extra name) (all : AreGathered is_asked own units readings.found gathered)
    (warned : warnings ≡ flat_map warnings_of readings.locals) where
  own-is : (name : Bytes) → own name ≡ entries_named name (local_entries readings.locals)
  own-is name = owned name ∙ ap (entries_named name) locals_are

  units-are : (name : Bytes) → units name ≡ entries_named name (unit_entries kept.lacking readings.units)
  units-are name = held name ∙ ap (entries_named name) kept.entries_are

  packages-are : gathered.packages ≡ map (package_of extra (local_entries readings.locals) (unit_entries kept.lacking readings.units)) readings.found
  packages-are = all.packages
      ∙ map_same (package_by is_asked own units) (package_of extra (local_entries readings.locals) (unit_entries kept.lacking readings.units))
      (λ f i. package_from f.name (asked f.name i) (own-is f.name i) (release_entries f.releases ++ in_order is_unit_below (units-are f.name i))) readings.found

  pub index-is : (index : Index) → index ≡ record { packages = in_order is_package_below gathered.packages; skipped = in_order is_path_below gathered.skipped; warnings = warnings } → IsIndexOf extra readings index
  index-is index is = record {
    lacking = kept.lacking;
    lacks = kept.lacks;
    index_is = is ∙ (λ i. record { packages = in_order is_package_below (packages-are i); skipped = in_order is_path_below (all.skipped i); warnings = warned i });
  }
