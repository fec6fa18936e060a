-- A folder with another freeze file.
use Rattle.std.specs.Prelude.{◌≡◌, ℕ, Bool, false, ◌&&◌, [], ◌∷◌, codes, Some}
use Rattle.std.specs.BTreeMap.{insert_entry}
use Rattle.std.specs.Cmp.Lexicographic.{slice_cmp}
use Rattle.std.specs.List.{list_any}
use Rattle.std.specs.Ordering.{nat_cmp}
use Rattle.plan_types.specs.Bytes.{same_text}
use Rattle.outside_folder.specs.Files.{Bytes, Files, file_at, listing, names_in}

-- the path of the freeze file
abbrev pub freeze_path : Bytes
freeze_path = codes "cabal.project.freeze"

-- whether a name is that of the freeze file, and a directory's
abbrev pub is_freeze_dir : Bytes × Bool → Bool
is_freeze_dir entry = same_text entry.0 freeze_path && entry.1

-- The second folder is the first with this text as its freeze file. Other files are the same. The root lists the name
-- of the file too, which is no directory's in the first. Other directories list what they did.
pub record IsRefrozen (files : Files) (text : Bytes) (now : Files) : Type 0 where
  pub freeze : file_at now freeze_path ≡ Some text
  pub others : (path : Bytes) → same_text path freeze_path ≡ false → file_at now path ≡ file_at files path
  pub free : list_any is_freeze_dir (names_in files []) ≡ false
  pub root : names_in now [] ≡ insert_entry (slice_cmp nat_cmp) (names_in files []) freeze_path false
  pub below : (b : ℕ) (bs : Bytes) → listing now (b ∷ bs) ≡ listing files (b ∷ bs)
