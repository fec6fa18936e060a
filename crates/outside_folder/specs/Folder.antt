-- The results of a folder's calls, where its files are observable.
use Rattle.std.specs.Prelude.{◌≡◌, ℕ, ◌<◌, ◌≤◌, nat_lt, List, length, map, Option, Some, None, Result, Ok, Err, IfSome, IsSomeAnd, if◌then◌else◌}
use Rattle.std.specs.Cmp.Lexicographic.{slice_cmp}
use Rattle.std.specs.List.Sorted.{IsStrictlySortedBy}
use Rattle.std.specs.Ordering.{nat_cmp}
use Rattle.outside_folder.specs.declared.folder.Name.{Name}
use Rattle.outside_folder.specs.declared.folder.FolderFault.{FolderFault}
use Rattle.outside_folder.specs.declared.folder.FolderFault.TheVariants.{Failed, TooLarge, NoMemory}
use Rattle.outside_folder.specs.Files.{Files, Bytes, file_at, listing}

-- the largest size of a file that is read, in bytes
abbrev pub file_limit : ℕ
file_limit = 1048576

-- a list without fault gives the names in the directory
abbrev pub Lists : Option Files → Bytes → Result (Option (List Name)) FolderFault → Type 0
Lists None dir answer = Unit {0}
Lists (Some files) dir (Ok names) = names ≡ listing files dir
Lists (Some files) dir (Err fault) = Unit {0}

-- the names are in byte order, each once
abbrev pub IsInOrder : List Name → Type 0
IsInOrder names = IsStrictlySortedBy (slice_cmp nat_cmp) (map (λ name. name.text) names)

-- a read without fault gives the bytes of the file at the path; `TooLarge` means more than the limit
abbrev pub Reads : Option Files → Bytes → Result (Option Bytes) FolderFault → Type 0
Reads None path answer = Unit {0}
Reads (Some files) path (Ok bytes) = bytes ≡ file_at files path
Reads (Some files) path (Err TooLarge) = IsSomeAnd (file_at files path) (λ bytes. file_limit < length bytes)
Reads (Some files) path (Err Failed) = Unit {0}
Reads (Some files) path (Err NoMemory) = Unit {0}

-- a file that is read is within the limit
abbrev pub IsWithinLimit : Option Bytes → Type 0
IsWithinLimit bytes = IfSome bytes (λ bytes. length bytes ≤ file_limit)

-- the bytes of a file, unless they are more than the limit
abbrev pub within_limit : Bytes → Option Bytes
within_limit bytes = if nat_lt file_limit (length bytes) then None else Some bytes
