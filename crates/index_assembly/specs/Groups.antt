-- The table of entries, grouped by package name.
use Rattle.std.specs.Prelude.{◌≡◌, ◌++◌, List, [], if◌then◌else◌, unwrap_or}
use Rattle.indexmap.specs.IndexMap.{get}
use Rattle.plan_types.specs.declared.index.Entry.{Entry}
use Rattle.outside_folder.specs.Files.{Bytes}
use Rattle.index_assembly.specs.declared.groups.EntriesByName.{EntriesByName}
use Rattle.plan_types.specs.Bytes.{same_text}

-- the entries in the table for a name
abbrev pub held : EntriesByName → Bytes → List Entry
held groups name = unwrap_or (get same_text groups.by_name name) []

-- these entries were appended for one name, and no others
abbrev pub Adds : EntriesByName → EntriesByName → Bytes → List Entry → Type 0
Adds old new name more = (other : Bytes) → held new other ≡ held old other ++ (if same_text name other then more else [])
