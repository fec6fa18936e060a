-- The index of what was read of a folder.
use Rattle.std.specs.Prelude.{◌≡◌, ℕ, Bool, true, false, List, [], ◌∷◌, ◌++◌, codes, map, flat_map}
use Rattle.std.specs.List.{list_any}
use Rattle.std.specs.Cmp.Lexicographic.{slice_cmp}
use Rattle.std.specs.Ordering.{nat_cmp, is_lt}
use Rattle.plan_types.specs.declared.dependency.Named.{Named}
use Rattle.plan_types.specs.declared.index.Entry.{Entry}
use Rattle.plan_types.specs.declared.index.Index.{Index}
use Rattle.plan_types.specs.declared.index.Package.{Package}
use Rattle.plan_types.specs.declared.index.Skipped.{Skipped}
use Rattle.plan_types.specs.declared.index.Warning.{Warning}
use Rattle.qualified_goals.specs.Names.{package_cmp}
use Rattle.outside_folder.specs.Files.{Bytes}
use Rattle.index_files.specs.declared.closure.FoundName.{FoundName}
use Rattle.index_files.specs.declared.local.Local.{Local}
use Rattle.index_files.specs.declared.readings.Readings.{Readings}
use Rattle.index_files.specs.declared.release.Judged.{Judged}
use Rattle.index_files.specs.declared.release.Judged.TheVariants.{Readable, Faulty}
use Rattle.index_assembly.specs.Order.{in_order}
use Rattle.index_assembly.specs.Entries.{entries_named, is_unit_below, local_entries, release_entries, unit_entries}
use Rattle.index_assembly.specs.Lacks.{AreLacking}
use Rattle.plan_types.specs.Bytes.{same_text}

-- ---- packages

-- whether a name is that of an extra package
abbrev pub is_extra : List Named → Bytes → Bool
is_extra extra name = list_any (λ named. same_text named.name name) extra

-- a local package hides all other instances of its name
abbrev pub package_from : Bytes → Bool → List Entry → List Entry → Package
package_from name extra [] others = record { name = name; local = false; extra = extra; entries = others }
package_from name extra (own ∷ more) others = record { name = name; local = true; extra = extra; entries = own ∷ more }

-- the package of a name: its local package alone, or its releases followed by its units
abbrev pub package_of : List Named → List Entry → List Entry → FoundName → Package
package_of extra locals units found =
    package_from found.name (is_extra extra found.name) (entries_named found.name locals)
    (release_entries found.releases ++ in_order is_unit_below (entries_named found.name units))

-- whether the first package comes before the second in goal order
abbrev pub is_package_below : Package → Package → Bool
is_package_below a b = is_lt (package_cmp a b)

-- ---- skipped files and warnings

-- the skipped file of a faulty release
abbrev pub skipped_by : Bytes → Judged → List Skipped
skipped_by path (Readable source) = []
skipped_by path (Faulty line cause) = record { path = path; line = line; cause = cause } ∷ []

-- the skipped files of a name
abbrev pub skipped_in : FoundName → List Skipped
skipped_in found = flat_map (λ release. skipped_by release.path release.judged) found.releases

-- whether the first path comes before the second
abbrev pub is_path_below : Skipped → Skipped → Bool
is_path_below a b = is_lt (slice_cmp nat_cmp a.path b.path)

-- the warning for a `build-tools` line
abbrev pub warning_at : Bytes → ℕ → Warning
warning_at path line = record { path = path; line = line; word = codes "build-tools" }

-- the warnings of a local file
abbrev pub warnings_of : Local → List Warning
warnings_of local = map (warning_at local.path) local.source.description.warnings

-- ---- the index

-- packages in goal order, skipped files by path, warnings in the order given
abbrev pub ordered_index : List Package → List Skipped → List Warning → Index
ordered_index packages skipped warnings = record {
  packages = in_order is_package_below packages;
  skipped = in_order is_path_below skipped;
  warnings = warnings;
}

-- the index of readings; its warnings are in the order of the local files
abbrev pub index_of : List Named → Readings → List Bool → Index
index_of extra readings lacking = record {
  packages = in_order is_package_below (map (package_of extra (local_entries readings.locals) (unit_entries lacking readings.units)) readings.found);
  skipped = in_order is_path_below (flat_map skipped_in readings.found);
  warnings = flat_map warnings_of readings.locals;
}

-- the index of these readings, without the units that lack a needed one
pub record IsIndexOf (extra : List Named) (readings : Readings) (index : Index) : Type 0 where
  pub lacking : List Bool
  pub lacks : AreLacking readings.units lacking
  pub index_is : index ≡ index_of extra readings lacking
