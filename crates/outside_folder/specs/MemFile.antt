-- Files in memory.
use Rattle.std.specs.Prelude.{ℕ, Bool, true, false, Option, MatchBool, MatchOption, if◌then◌else◌, [], ◌≡◌, ◌≢◌, ◌<◌, ◌⊎◌, List, length, map, take, slice_index, slice_index_or, None, Some, IsSome, String}
use Rattle.std.specs.BTreeMap.{BTreeMap, get_by_text}
use Rattle.std.specs.Str.{bytes_eq}
use Rattle.std.specs.declared.alloc.Global.{Global}
use Rattle.outside_folder.specs.declared.mem_folder.MemFile.{MemFile}
use Rattle.fallible_values.specs.declared.text.Text.{Text}
use Rattle.outside_folder.specs.Files.{Bytes, Files, file_at, is_path, is_tree, name_in, names_in, slash, with_name}

-- the paths and bytes of files
abbrev pub told : List MemFile → Files
told files = map (λ file. (file.path, file.bytes)) files

-- the table maps each file's path to the file's position
abbrev pub Placed : List MemFile → BTreeMap (String Global) ℕ → Type 0
Placed files places = (path : Bytes) → (get_by_text places path ≡ None → file_at (told files) path ≡ None)
    × ((place : ℕ) → get_by_text places path ≡ Some place → (place < length files) × ((d : MemFile) → file_at (told files) path ≡ Some (slice_index_or files place d).bytes))

-- no two files have the same path
abbrev pub AreDistinct : List MemFile → Type 0
AreDistinct files = (i j : ℕ) (d : MemFile) → i < j → j < length files → (slice_index_or files i d).path ≢ (slice_index_or files j d).path

-- a prefix of this length ends before a slash: it is a directory above the path
abbrev pub IsFront : Bytes → ℕ → Type 0
IsFront path n = (n < length path) × (slice_index path n ≡ slash)

-- no directory above the path is a file's path
abbrev pub IsFree : BTreeMap (String Global) ℕ → Bytes → Type 0
IsFree places path = (n : ℕ) → IsFront path n → get_by_text places (take n path) ≡ None

-- a directory above the path is a file's path
abbrev pub IsUnderFile : BTreeMap (String Global) ℕ → Bytes → Type 0
IsUnderFile places path = (n : ℕ) × IsFront path n × IsSome (get_by_text places (take n path))

-- a table of the names in each directory
abbrev pub Dirs : Type 0
Dirs = BTreeMap (String Global) (BTreeMap Text Bool)

-- the names in a directory of the table, or none
abbrev pub entries_of : Option (BTreeMap Text Bool) → List (Bytes × Bool)
entries_of None = []
entries_of (Some names) = names.entries

-- the names that a table has for a directory
abbrev pub names_at : Dirs → Bytes → List (Bytes × Bool)
names_at dirs dir = entries_of (get_by_text dirs dir)

-- the table has the names in each directory of the files
abbrev pub Listed : List MemFile → Dirs → Type 0
Listed files dirs = (dir : Bytes) → names_at dirs dir ≡ names_in (told files) dir

-- one directory has these names now; the others are unchanged
abbrev pub PutsNames : Dirs → Dirs → Bytes → List (Bytes × Bool) → Type 0
PutsNames old new dir names = (other : Bytes) → names_at new other ≡ (if bytes_eq dir other then names else names_at old other)

-- a table of the files' positions, and `Holds`; or no table, and the files form no tree
abbrev pub HasPlaces : Type 0 → List MemFile → Option (BTreeMap (String Global) ℕ) → Type 0
HasPlaces Holds files found = MatchOption found (is_tree (told files) ≡ false) (λ places. Holds × Placed files places)

-- whether a prefix of this length is both a directory above the path and a file's path
abbrev pub IsFileAt : BTreeMap (String Global) ℕ → Bytes → ℕ → Bool → Type 0
IsFileAt places path n found =
    MatchBool found (IsFront path n × IsSome (get_by_text places (take n path))) (IsFront path n → get_by_text places (take n path) ≡ None)

-- whether a file may have this path: it is well-formed, and no directory above it is a file's path
abbrev pub MayStand : BTreeMap (String Global) ℕ → Bytes → Bool → Type 0
MayStand places path may =
    MatchBool may ((is_path path ≡ true) × IsFree places path) ((is_path path ≡ false) ⊎ IsUnderFile places path)

-- each directory of this length that is above the path has the path's next name, too; the others are unchanged
abbrev pub AddsAt : Dirs → Dirs → Bytes → ℕ → Type 0
AddsAt old new path end =
    ((dir : Bytes) → length dir ≡ end → names_at new dir ≡ with_name (names_at old dir) (name_in dir path))
    × ((dir : Bytes) → length dir ≢ end → names_at new dir ≡ names_at old dir)
