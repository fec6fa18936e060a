-- The files of a folder, and the results of a list and a read.
use Rattle.std.specs.Prelude.{ℕ, Bool, true, ◌==◌, ◌&&◌, ◌||◌, not, nat_lt, List, [], ◌∷◌, length, drop, fold, map, nat_eq, Option, Some, None, is_some, option_and_then, if◌then◌else◌}
use Rattle.std.specs.List.{list_all, list_any, slice_split, starts_with, before_first, position_or_len}
use Rattle.std.specs.Option.{option_map}
use Rattle.std.specs.Ordering.{nat_cmp}
use Rattle.std.specs.Cmp.Lexicographic.{slice_cmp}
use Rattle.std.specs.BTreeMap.{insert_entry}
use Rattle.outside_folder.specs.declared.folder.Name.{Name}
use Rattle.plan_types.specs.Bytes.{same_text}

-- the bytes of a text
abbrev pub Bytes : Type 0
Bytes = List ℕ

-- each file's path and bytes
abbrev pub Files : Type 0
Files = List (Bytes × Bytes)

-- the bytes of the file at a path
abbrev pub file_at : Files → Bytes → Option Bytes
file_at [] path = None
file_at (file ∷ files) path = if same_text file.0 path then Some file.1 else file_at files path

-- the byte between two names of a path
abbrev pub slash : ℕ
slash = 47

-- the rest of a path after this prefix
abbrev pub after : Bytes → Bytes → Option Bytes
after front path = if starts_with nat_eq path front then Some (drop (length front) path) else None

-- the rest of a path below this directory
abbrev pub inside : Bytes → Bytes → Option Bytes
inside dir path = option_and_then (after (slash ∷ [])) (after dir path)

-- the first name of a path, and whether it is a directory's: whether more follows
abbrev pub first_name : Bytes → Bytes × Bool
first_name path = (before_first (λ b. b == slash) path, nat_lt (position_or_len (λ b. b == slash) path) (length path))

-- the next name of a path below this directory or the root, and whether it is a directory's
abbrev pub name_in : Bytes → Bytes → Option (Bytes × Bool)
name_in [] path = Some (first_name path)
name_in (b ∷ bs) path = option_map first_name (inside (b ∷ bs) path)

-- the names of a directory after an optional one is inserted, in byte order, each once
abbrev pub with_name : List (Bytes × Bool) → Option (Bytes × Bool) → List (Bytes × Bool)
with_name names None = names
with_name names (Some name) = insert_entry (slice_cmp nat_cmp) names name.0 name.1

-- the names in a directory, in byte order, each once
abbrev pub names_in : Files → Bytes → List (Bytes × Bool)
names_in files dir = fold (λ names file. with_name names (name_in dir file.0)) [] files

-- the same names as values of type `Name`
abbrev pub as_names : List (Bytes × Bool) → List Name
as_names names = map (λ name. record { text = name.0; folder = name.1 }) names

-- the names of a directory; a directory without names is missing, unless it is the root
abbrev pub unless_missing : Bytes → List (Bytes × Bool) → Option (List Name)
unless_missing [] names = Some (as_names names)
unless_missing (b ∷ bs) [] = None
unless_missing (b ∷ bs) (name ∷ names) = Some (as_names (name ∷ names))

-- the result of a list of a directory
abbrev pub listing : Files → Bytes → Option (List Name)
listing files dir = unless_missing dir (names_in files dir)

-- whether these bytes are a well-formed path: no name is empty
abbrev pub is_path : Bytes → Bool
is_path path = list_all (λ name. not (length name == 0)) (slice_split (λ b. b == slash) path)

-- whether the second path is below the first
abbrev pub is_under : Bytes → Bytes → Bool
is_under dir path = is_some (inside dir path)

-- whether two paths exclude each other: they are equal, or one is below the other
abbrev pub clashes : Bytes → Bytes → Bool
clashes one other = same_text one other || is_under one other || is_under other one

-- whether the files form a tree: the paths are well-formed, and no two clash
abbrev pub is_tree : Files → Bool
is_tree [] = true
is_tree (file ∷ files) = is_path file.0 && not (list_any (λ other. clashes file.0 other.0) files) && is_tree files
