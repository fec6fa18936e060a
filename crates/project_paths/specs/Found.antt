-- The local files at the places of a pattern.
use Rattle.std.specs.Prelude.{◌≡◌, Bool, false, ◌&&◌, ◌==◌, not, if◌then◌else◌, List, [], ◌∷◌, length, map, filter, IsTrue}
use Rattle.outside_folder.specs.Files.{Bytes, Files, is_tree}
use Rattle.outside_folder.specs.declared.folder.Name.{Name}
use Rattle.project_paths.specs.Places.{names_at, path_in, places}
use Rattle.project_paths.specs.declared.found.MatchedFiles.{MatchedFiles}
use Rattle.project_paths.specs.declared.pattern.Pattern.{Pattern}
use Rattle.project_paths.specs.declared.places.FolderPlace.{FolderPlace}
use Rattle.project_paths.specs.declared.matched_paths.MatchedPath.{MatchedPath}
use Rattle.project_paths.specs.declared.matched_paths.MatchedPath.TheVariants.{Listed, Literal}
use Rattle.project_paths.specs.MatchedPaths.{is_cabal, seen}

-- whether a name is that of a `.cabal` file, and not of a directory
abbrev pub is_cabal_file : Name → Bool
is_cabal_file name = not name.folder && is_cabal name.text

-- the `.cabal` files of a directory
abbrev pub cabal_in : Bytes → List Name → List Bytes
cabal_in dir names = map (λ name. path_in dir name.text) (filter is_cabal_file names)

-- whether a file at a path is a local one: it ends in `.cabal`, and the pattern isn't for directories only
abbrev pub is_local : Bool → Bytes → Bool
is_local folders path = not folders && is_cabal path

-- the local files at a place: the `.cabal` files in a directory, or the file itself if it is a local one
abbrev pub files_of : Bool → FolderPlace → List Name → List Bytes
files_of folders place names = if place.folder then cabal_in place.path names else if is_local folders place.path then place.path ∷ [] else []

-- a place's path and local files
abbrev pub found_at : Files → Bool → FolderPlace → MatchedFiles
found_at files folders place = record { path = place.path; files = files_of folders place (names_at files place) }

-- the places of a pattern with their local files
abbrev pub found_by : Files → Pattern → List MatchedFiles
found_by files pattern = map (found_at files pattern.folders) (places files pattern.names)

-- whether a place has local files
abbrev pub has_files : MatchedFiles → Bool
has_files found = not (length found.files == 0)

-- a path with these local files
abbrev pub matched_files : Bytes → List Bytes → MatchedFiles
matched_files path files = record { path = path; files = files }

-- If the files form a tree, these are the local files at the places of a matched path. Places without a local file don't count.
abbrev pub Finds : Files → Bool → MatchedPath → MatchedFiles → Type 0
Finds files folders matched found = IsTrue (is_tree files) → filter has_files (found ∷ []) ≡ filter has_files (map (found_at files folders) (seen files matched))

-- whether a matched path is a listed place that is a local file
abbrev pub is_local_file : Bool → MatchedPath → Bool
is_local_file folders (Listed place) = not place.folder && is_local folders place.path
is_local_file folders (Literal path) = false
