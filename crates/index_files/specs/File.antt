-- Files as they are read, and their counts.
use Rattle.std.specs.Prelude.{◌≡◌, ℕ, ◌+◌, Bool, List, [], ◌∷◌, length, map, sum_by, if◌then◌else◌}
use Rattle.outside_folder.specs.declared.calls.Content.{Content}
use Rattle.outside_folder.specs.declared.calls.Content.TheVariants.{Missing, TooLarge, Bytes as Holds}
use Rattle.outside_folder.specs.Calls.{content_at, IsWithin}
use Rattle.outside_folder.specs.Files.{Bytes, Files}
use Rattle.index_files.specs.declared.file.ReadFile.{ReadFile}
use Rattle.index_files.specs.declared.totals.Totals.{Totals}
use Rattle.index_files.specs.Totals.{is_too_many}

-- a listed file that is gone counts as empty
abbrev pub unless_gone : Content → Content
unless_gone Missing = Holds []
unless_gone TooLarge = TooLarge
unless_gone (Holds bytes) = Holds bytes

-- the content of a file, by whether it was listed
abbrev pub content_found : Bool → Content → Content
content_found listed content = if listed then unless_gone content else content

-- the file at a path, by whether it was listed
abbrev pub file_found : Bool → Files → Bytes → ReadFile
file_found listed files path = record { path = path; content = content_found listed (content_at files path) }

-- the number of files that it counts as
abbrev pub count_of : ReadFile → ℕ
count_of file = elim file.content [ Missing ↦ 0 | TooLarge ↦ 1 | Holds bytes ↦ 1 ]

-- its number of bytes; 0 if it is too large
abbrev pub size_of : ReadFile → ℕ
size_of file = elim file.content [ Missing ↦ 0 | TooLarge ↦ 0 | Holds bytes ↦ length bytes ]

-- the number of these files
abbrev pub count_all : List ReadFile → ℕ
count_all = sum_by count_of

-- the number of their bytes
abbrev pub size_all : List ReadFile → ℕ
size_all = sum_by size_of

-- the files before the first one too many, after so many files and bytes
abbrev pub fitting : ℕ → ℕ → List ReadFile → List ReadFile
fitting files bytes [] = []
fitting files bytes (file ∷ rest) =
    if is_too_many (files + count_of file) (bytes + size_of file) then []
    else file ∷ fitting (files + count_of file) (bytes + size_of file) rest

-- the files at these paths before the first one too many, after these totals
abbrev pub fitting_at : Totals → Bool → Files → List Bytes → List ReadFile
fitting_at before listed files paths = fitting before.files before.bytes (map (file_found listed files) paths)

-- the totals grew by those of these files
pub record Counts (before after : Totals) (read : List ReadFile) : Type 0 where
  pub files : after.files ≡ before.files + count_all read
  pub bytes : after.bytes ≡ before.bytes + size_all read

-- the content of a file is within the size limit
abbrev pub HasContentWithinLimit : ReadFile → Type 0
HasContentWithinLimit file = IsWithin file.content

-- the totals are those of these files
pub record CountsAll (totals : Totals) (read : List ReadFile) : Type 0 where
  pub files : totals.files ≡ count_all read
  pub bytes : totals.bytes ≡ size_all read
