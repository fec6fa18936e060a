-- The table of the names that records mention.
use Rattle.std.specs.Prelude.{◌≡◌, ◌++◌, List, [], if◌then◌else◌, unwrap_or}
use Rattle.indexmap.specs.IndexMap.{get}
use Rattle.outside_folder.specs.Files.{Bytes}
use Rattle.index_files.specs.declared.needed_names.MentionedNames.{MentionedNames}
use Rattle.plan_types.specs.Bytes.{same_text}

-- the names in the table for a name
abbrev pub needed_in : MentionedNames → Bytes → List Bytes
needed_in needed name = unwrap_or (get same_text needed.by_name name) []

-- these names were appended for one name, and no others
abbrev pub Adds : MentionedNames → MentionedNames → Bytes → List Bytes → Type 0
Adds old new name more = (other : Bytes) → needed_in new other ≡ needed_in old other ++ (if same_text name other then more else [])
