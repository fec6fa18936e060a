-- A folder of the system: its paths, the meaning of its entries and errors, and the results of its calls.
use Rattle.std.specs.Prelude.{◌≡◌, ◌≢◌, ℕ, ◌==◌, ◌<◌, ◌⊎◌, ◌↔◌, Bool, false, nat_lt, List, [], ◌∷◌, ◌++◌, length, take, fold, codes, Any, Ok, Err, Option, Some, None, Result, IsErrAnd, IsTrue}
use Rattle.std.specs.List.{AllZip, list_any, slice_split}
use Rattle.std.specs.Fs.{IsDir, dir_entry_name, dir_entry_path, file_type}
use Rattle.std.specs.declared.fs.DirEntry.{DirEntry}
use Rattle.std.specs.declared.fs.Metadata.{Metadata}
use Rattle.std.specs.Iterator.{Drains, Yields}
use Rattle.std.specs.BTreeMap.{insert_entry}
use Rattle.std.specs.Cmp.Lexicographic.{slice_cmp}
use Rattle.std.specs.Ordering.{nat_cmp}
use Rattle.std.specs.IoError.{error_kind}
use Rattle.std.specs.declared.io.Error.{Error}
use Rattle.std.specs.declared.io.ErrorKind.TheVariants as kind
use Rattle.outside_folder.specs.declared.folder.Name.{Name}
use Rattle.outside_folder.specs.declared.folder.FolderFault.{FolderFault}
use Rattle.outside_folder.specs.declared.folder.FolderFault.TheVariants.{Failed, TooLarge, NoMemory}
use Rattle.outside_folder.specs.Files.{Bytes, as_names, slash}
use Rattle.outside_folder.specs.Folder.{file_limit}

-- the largest number of names in a directory that is listed
abbrev pub name_limit : ℕ
name_limit = 1048576

-- the system's path of a path below the root
abbrev pub system_path : Bytes → Bytes → Bytes
system_path root [] = root
system_path root (b ∷ bs) = root ++ codes "/" ++ b ∷ bs

-- the fault that an error of the system means
abbrev pub IsFaultOf : Error → FolderFault → Type 0
IsFaultOf error NoMemory = error_kind error ≡ kind.OutOfMemory
IsFaultOf error Failed = error_kind error ≢ kind.OutOfMemory
IsFaultOf error TooLarge = ⊥

-- the length of the longest file name, in bytes
abbrev pub longest_name : ℕ
longest_name = 255

-- whether a name in the path is longer than any file name
abbrev pub has_long_name : Bytes → Bool
has_long_name path = list_any (λ name. nat_lt longest_name (length name)) (slice_split (λ b. b == slash) path)

-- The error means that nothing is there: no such name, a file in place of a directory, or a loop of links.
abbrev pub IsNothing : Error → Type 0
IsNothing error =
    (error_kind error ≡ kind.NotFound) ⊎ (error_kind error ≡ kind.NotADirectory) ⊎ (error_kind error ≡ kind.FilesystemLoop)

-- The error means that nothing is at the path: as above, or a name in it is too long. A path that is too long only
-- as a whole isn't missing: a file may be there.
abbrev pub IsMissing : Bytes → Error → Type 0
IsMissing path error = IsNothing error ⊎ ((error_kind error ≡ kind.InvalidFilename) × IsTrue (has_long_name path))

-- the names after one is inserted, in byte order, each once
abbrev pub with_name : List (Bytes × Bool) → Name → List (Bytes × Bool)
with_name names name = insert_entry (slice_cmp nat_cmp) names name.text name.folder

-- the names in byte order, each once
abbrev pub by_text : List Name → List (Bytes × Bool)
by_text names = fold with_name [] names

-- whether an entry is a folder, by the metadata at its path; a link that leads nowhere isn't one
abbrev pub SaysFolder : Result Metadata Error → Bool → Type 0
SaysFolder (Ok found) folder = IsTrue folder ↔ IsDir (file_type found)
SaysFolder (Err error) folder = IsNothing error × (folder ≡ false)

-- whether an entry is a folder isn't known: its metadata call failed with this fault
abbrev pub SaysNothing : Result Metadata Error → FolderFault → Type 0
SaysNothing (Ok found) fault = ⊥
SaysNothing (Err error) fault = (IsNothing error → ⊥) × IsFaultOf error fault

-- whether a path has a zero byte: no file of the system has such a path
abbrev pub has_zero : Bytes → Bool
has_zero path = list_any (λ byte. byte == 0) path

-- the name of an entry, by metadata that the system may find at its path
abbrev pub IsNameOf : {R A F D : Type 0} → (Bytes → Result Metadata Error → Type 0) → Result (DirEntry R A F D) Error → Name → Type 0
IsNameOf finds (Ok entry) name =
    (name.text ≡ dir_entry_name entry) × (found : Result Metadata Error) × finds (dir_entry_path entry) found × SaysFolder found name.folder
IsNameOf finds (Err error) name = ⊥

-- an entry without a name: the system failed to give the entry or its metadata
abbrev pub HasNoName : {R A F D : Type 0} → (Bytes → Result Metadata Error → Type 0) → Result (DirEntry R A F D) Error → Type 0
HasNoName finds (Ok entry) = (found : Result Metadata Error) × finds (dir_entry_path entry) found × SaysNothing found Failed
HasNoName finds (Err error) = IsFaultOf error Failed

-- a listing gives entries to its end, each has a name, and their names satisfy `Holds`
abbrev pub GivesNames : {S R A F D : Type 0} → (Bytes → Result Metadata Error → Type 0) → (S → Option (Result (DirEntry R A F D) Error) → S → Type 0) → S → (List Name → Type 0) → Type 0
GivesNames {R = R} {A = A} {F = F} {D = D} finds next_gives entries Holds =
    (given : List (Result (DirEntry R A F D) Error)) × (names : List Name) × Drains next_gives entries given × AllZip (IsNameOf finds) given names × Holds names

-- a listing gives too many entries, or one without a name
abbrev pub GivesFault : {S R A F D : Type 0} → (Bytes → Result Metadata Error → Type 0) → (S → Option (Result (DirEntry R A F D) Error) → S → Type 0) → S → Type 0
GivesFault {S = S} {R = R} {A = A} {F = F} {D = D} finds next_gives entries =
    (given : List (Result (DirEntry R A F D) Error)) × (rest : S) × Yields next_gives entries given rest × ((name_limit < length given) ⊎ Any (HasNoName finds) given)

-- The answer for a directory that can't be opened: it is missing, which the root never is, or a fault.
pub record IsUnlisted (dir : Bytes) (error : Error) (answer : Result (Option (List Name)) FolderFault) : Type 0 where
  pub missing : IsMissing dir error → dir ≢ [] → answer ≡ Ok None
  pub fault : (IsMissing dir error → ⊥) → IsErrAnd answer (IsFaultOf error)
  pub root : dir ≡ [] → IsErrAnd answer (IsFaultOf error)

-- the answer for a listing: the names of its entries, or a fault
abbrev pub IsListed : {S R A F D : Type 0} → (Bytes → Result Metadata Error → Type 0) → (S → Option (Result (DirEntry R A F D) Error) → S → Type 0) → S → Result (Option (List Name)) FolderFault → Type 0
IsListed finds next_gives entries (Ok (Some names)) = GivesNames finds next_gives entries (λ found. names ≡ as_names (by_text found))
IsListed finds next_gives entries (Ok None) = ⊥
IsListed finds next_gives entries (Err Failed) = GivesFault finds next_gives entries
IsListed finds next_gives entries (Err TooLarge) = ⊥
IsListed finds next_gives entries (Err NoMemory) = Unit {0}

-- the answer for a directory after an attempt to open it
abbrev pub IsListingOf : {S R A F D : Type 0} → (Bytes → Result Metadata Error → Type 0) → (S → Option (Result (DirEntry R A F D) Error) → S → Type 0) → Bytes → Result S Error → Result (Option (List Name)) FolderFault → Type 0
IsListingOf finds next_gives dir (Ok entries) answer = IsListed finds next_gives entries answer
IsListingOf finds next_gives dir (Err error) answer = IsUnlisted dir error answer

-- The answer for a directory below a root, by the answers that the system may give.
pub record IsListingAt {S R A F D : Type 0} (lists : Bytes → Result S Error → Type 0) (finds : Bytes → Result Metadata Error → Type 0) (next_gives : S → Option (Result (DirEntry R A F D) Error) → S → Type 0) (root dir : Bytes) (answer : Result (Option (List Name)) FolderFault) : Type 0 where
  pub no_path : IsTrue (has_zero dir) → answer ≡ Ok None
  pub asked : (IsTrue (has_zero dir) → ⊥) → answer ≢ Err NoMemory → (opened : Result S Error) × lists (system_path root dir) opened × IsListingOf finds next_gives dir opened answer

-- The answer for a file that can't be read: it is missing or a directory, or a fault.
pub record IsUnread (path : Bytes) (error : Error) (answer : Result (Option Bytes) FolderFault) : Type 0 where
  pub missing : IsMissing path error → answer ≡ Ok None
  pub directory : error_kind error ≡ kind.IsADirectory → answer ≡ Ok None
  pub fault : (IsMissing path error → ⊥) → error_kind error ≢ kind.IsADirectory → IsErrAnd answer (IsFaultOf error)

-- the result of a read: so many bytes from the front of the buffer, or an error
abbrev pub bytes_given : Result ℕ Error → Bytes → Result Bytes Error
bytes_given (Ok n) buffer = Ok (take n buffer)
bytes_given (Err error) buffer = Err error

-- reads of a file gave these non-empty pieces in turn, so that its end wasn't reached
abbrev pub GivesPieces : {F : Type 0} → (F → Result Bytes Error → F → Type 0) → F → List Bytes → F → Type 0
GivesPieces gives file [] now = file ≡ now
GivesPieces {F = F} gives file (piece ∷ pieces) now =
    (next : F) × gives file (Ok piece) next × (0 < length piece) × GivesPieces gives next pieces now

-- the concatenation of pieces
abbrev pub joined : List Bytes → Bytes
joined pieces = fold (λ bytes piece. bytes ++ piece) [] pieces

-- reads of a file gave these bytes, and the next read this result
abbrev pub GivesThen : {F : Type 0} → (F → Result Bytes Error → F → Type 0) → F → Bytes → Result Bytes Error → Type 0
GivesThen {F = F} gives file bytes last =
    (pieces : List Bytes) × (now : F) × (next : F) × GivesPieces gives file pieces now × (bytes ≡ joined pieces) × gives now last next

-- The answer for an opened file: all its bytes to the end, `TooLarge` where reads gave more than the limit, or the
-- meaning of the error of a read.
abbrev pub IsReadAs : {F : Type 0} → (F → Result Bytes Error → F → Type 0) → Bytes → F → Result (Option Bytes) FolderFault → Type 0
IsReadAs gives path file (Ok (Some bytes)) = GivesThen gives file bytes (Ok [])
IsReadAs gives path file (Ok None) = (bytes : Bytes) × (error : Error) × GivesThen gives file bytes (Err error) × IsUnread path error (Ok None)
IsReadAs {F = F} gives path file (Err TooLarge) =
    (pieces : List Bytes) × (now : F) × GivesPieces gives file pieces now × (file_limit < length (joined pieces))
IsReadAs gives path file (Err Failed) = (bytes : Bytes) × (error : Error) × GivesThen gives file bytes (Err error) × IsUnread path error (Err Failed)
IsReadAs gives path file (Err NoMemory) = Unit {0}

-- the answer for a file after an attempt to open it
abbrev pub IsReadOf : {F : Type 0} → (F → Result Bytes Error → F → Type 0) → Bytes → Result F Error → Result (Option Bytes) FolderFault → Type 0
IsReadOf gives path (Ok file) answer = IsReadAs gives path file answer
IsReadOf gives path (Err error) answer = IsUnread path error answer

-- The answer for a file below a root, by the answers that the system may give.
pub record IsReadAt {F : Type 0} (opens : Bytes → Result F Error → Type 0) (gives : F → Result Bytes Error → F → Type 0) (root path : Bytes) (answer : Result (Option Bytes) FolderFault) : Type 0 where
  pub no_path : IsTrue (has_zero path) → answer ≡ Ok None
  pub asked : (IsTrue (has_zero path) → ⊥) → answer ≢ Err NoMemory → (opened : Result F Error) × opens (system_path root path) opened × IsReadOf gives path opened answer
