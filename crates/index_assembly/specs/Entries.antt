-- The entries of local packages, releases and units.
use Rattle.std.specs.Prelude.{Bool, true, false, if◌then◌else◌, List, [], ◌∷◌, map, filter, flat_map}
use Rattle.std.specs.Ordering.{is_lt}
use Rattle.plan_types.specs.Members.{order}
use Rattle.plan_types.specs.declared.index.Body.{Body}
use Rattle.plan_types.specs.declared.index.Body.TheVariants as body
use Rattle.plan_types.specs.declared.index.Entry.{Entry}
use Rattle.plan_types.specs.declared.index.Instance.{Instance}
use Rattle.plan_types.specs.declared.index.Origin.TheVariants.{Installed}
use Rattle.plan_types.specs.declared.index.UnitRecord.{UnitRecord}
use Rattle.flatten.specs.Sound.{instance_of, unit_order}
use Rattle.outside_folder.specs.Files.{Bytes}
use Rattle.plan_types.specs.declared.index.Source.{Source}
use Rattle.index_files.specs.Units.{needed_names}
use Rattle.index_files.specs.declared.local.Local.{Local}
use Rattle.index_files.specs.declared.release.Judged.{Judged}
use Rattle.index_files.specs.declared.release.Judged.TheVariants.{Readable, Faulty}
use Rattle.index_files.specs.declared.release.Release.{Release}
use Rattle.index_files.specs.declared.unit.Unit.{Unit}
use Rattle.index_assembly.specs.Order.{in_order}
use Rattle.plan_types.specs.Bytes.{same_text}

-- an entry with its instance, in a local package or another one
abbrev pub entry_of : Bool → Body → Entry
entry_of local known = record { instance = instance_of local known; body = known }

-- the entry of a source
abbrev pub source_entry : Bool → Source → Entry
source_entry local source = entry_of local (body.Source source)

-- the entries of a name
abbrev pub entries_named : Bytes → List Entry → List Entry
entries_named name entries = filter (λ e. same_text e.instance.name name) entries

-- ---- local packages

-- the entries of local packages
abbrev pub local_entries : List Local → List Entry
local_entries locals = map (λ local. source_entry true local.source) locals

-- ---- releases

-- the entry of a release, if it is readable
abbrev pub entries_in : Judged → List Entry
entries_in (Readable source) = source_entry false source ∷ []
entries_in (Faulty line cause) = []

-- whether the first version is earlier
abbrev pub is_version_below : Entry → Entry → Bool
is_version_below a b = is_lt (order a.instance.version.parts b.instance.version.parts)

-- the entries of readable releases, by version
abbrev pub release_entries : List Release → List Entry
release_entries releases = in_order is_version_below (flat_map (λ release. entries_in release.judged) releases)

-- ---- units

-- the instance of a unit
abbrev pub unit_instance : UnitRecord → Instance
unit_instance unit = record { name = unit.name; version = unit.version; origin = Installed; unit = unit.id }

-- the entry of a unit, with the package names of the units that it needs
abbrev pub unit_entry : List Unit → Unit → Entry
unit_entry units u = entry_of false (body.Installed u.record_of (needed_names units u))

-- the entry of a unit, unless it lacks a needed one
abbrev pub entry_unless : Bool → List Unit → Unit → List Entry
entry_unless lacks units u = if lacks then [] else unit_entry units u ∷ []

-- the elements without a mark
abbrev pub unmarked : {X : Type 0} → List Bool → List X → List X
unmarked [] xs = xs
unmarked (mark ∷ marks) [] = []
unmarked (mark ∷ marks) (x ∷ xs) = if mark then unmarked marks xs else x ∷ unmarked marks xs

-- the entries of the units that lack none
abbrev pub unit_entries : List Bool → List Unit → List Entry
unit_entries lacking units = map (unit_entry units) (unmarked lacking units)

-- whether the first comes before the second: by version, then by id
abbrev pub is_unit_below : Entry → Entry → Bool
is_unit_below a b = is_lt (unit_order a b)
