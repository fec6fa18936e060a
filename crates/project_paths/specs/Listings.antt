-- The directories listed so far, each once, with their names.
use Rattle.std.specs.Prelude.{◌≡◌, IfSome, IsTrue, List, [], Option, Some, if◌then◌else◌, unwrap_or}
use Rattle.indexmap.specs.IndexMap.{get}
use Rattle.plan_types.specs.Bytes.{same_text}
use Rattle.outside_folder.specs.Files.{Bytes, Files, is_tree, listing}
use Rattle.outside_folder.specs.declared.folder.Name.{Name}
use Rattle.project_paths.specs.declared.listings.Listings.{Listings}

-- the names in a directory, if it was listed
abbrev pub listed : Listings → Bytes → Option (List Name)
listed listings dir = get same_text listings.by_dir dir

-- the same as a list, empty if it wasn't listed
abbrev pub kept : Listings → Bytes → List Name
kept listings dir = unwrap_or (listed listings dir) []

-- the names in a directory of a folder; none if it is missing
abbrev pub names_in : Files → Bytes → List Name
names_in files dir = unwrap_or (listing files dir) []

-- for each listed directory: its names are those in these files, and the files form a tree
abbrev pub AreListed : Files → Listings → Type 0
AreListed files listings = (dir : Bytes) → IfSome (listed listings dir) (λ names. (names ≡ names_in files dir) × IsTrue (is_tree files))

-- the same, where the folder is observable
abbrev pub Agree : Option Files → Listings → Type 0
Agree tells listings = IfSome tells (λ files. AreListed files listings)

-- one directory has these names now; the others are unchanged
abbrev pub Puts : Listings → Listings → Bytes → List Name → Type 0
Puts old new dir names = (other : Bytes) → listed new other ≡ (if same_text dir other then Some names else listed old other)
