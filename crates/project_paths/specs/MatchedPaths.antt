-- Matched paths, where the names of a pattern lead, and the places that they are. Not every matched path is looked up.
use Rattle.std.specs.Prelude.{◌≡◌, ℕ, Bool, true, false, ◌&&◌, ◌==◌, not, if◌then◌else◌, nat_eq, List, [], ◌∷◌, length, codes, flat_map, Option, Some, None, is_some, IsTrue}
use Rattle.std.specs.List.{ends_with, list_all, list_any}
use Rattle.outside_folder.specs.Files.{Bytes, Files, file_at, is_tree}
use Rattle.outside_folder.specs.declared.folder.Name.{Name}
use Rattle.project_paths.specs.Listings.{names_in}
use Rattle.project_paths.specs.declared.places.FolderPlace.{FolderPlace}
use Rattle.project_paths.specs.declared.matched_paths.MatchedPath.{MatchedPath}
use Rattle.project_paths.specs.declared.matched_paths.MatchedPath.TheVariants.{Listed, Literal}

-- the path of a matched path
abbrev pub path_of : MatchedPath → Bytes
path_of (Listed place) = place.path
path_of (Literal path) = path

-- the path of a matched path that is or may be a directory
abbrev pub dir_of : MatchedPath → Option Bytes
dir_of (Listed place) = if place.folder then Some place.path else None
dir_of (Literal path) = Some path

-- whether a matched path may be a directory
abbrev pub is_open : MatchedPath → Bool
is_open matched = is_some (dir_of matched)

-- the file, and the directory, at a path
abbrev pub plain_file : Bytes → FolderPlace
plain_file path = record { path = path; folder = false }

abbrev pub directory : Bytes → FolderPlace
directory path = record { path = path; folder = true }

-- a directory, unless it is empty
abbrev pub unless_empty : Bytes → List Name → List FolderPlace
unless_empty path [] = []
unless_empty path (name ∷ names) = directory path ∷ []

-- the place at a path: a file, a directory or none
abbrev pub standing : Files → Bytes → List FolderPlace
standing files path = if is_some (file_at files path) then plain_file path ∷ [] else unless_empty path (names_in files path)

-- the place of a matched path, if there is one
abbrev pub seen : Files → MatchedPath → List FolderPlace
seen files (Listed place) = place ∷ []
seen files (Literal path) = standing files path

-- whether a byte may be in a literal name: no star, no slash and no NUL
abbrev pub is_plain : ℕ → Bool
is_plain b = not (b == 42) && not (b == 47) && not (b == 0)

-- whether a name of a pattern is literal: it matches itself alone
abbrev pub is_literal : Bytes → Bool
is_literal name = not (length name == 0) && list_all is_plain name

-- whether a name ends in `.cabal`
abbrev pub is_cabal : Bytes → Bool
is_cabal name = ends_with nat_eq name (codes ".cabal")

-- whether a name of a pattern is a literal name that isn't looked up: it doesn't end in `.cabal`
abbrev pub is_taken : Bytes → Bool
is_taken name = is_literal name && not (is_cabal name)

-- whether a matched path comes from a listing, or its path doesn't end in `.cabal`
abbrev pub is_looked_up : MatchedPath → Bool
is_looked_up (Listed place) = true
is_looked_up (Literal path) = not (is_cabal path)

-- if the files form a tree, the matched paths are these places
abbrev pub Leads : Files → List MatchedPath → List FolderPlace → Type 0
Leads files matched_paths places = IsTrue (is_tree files) → flat_map (seen files) matched_paths ≡ places

-- if no matched path may be a directory, a listing was made, so the files are known to form a tree
abbrev pub Settled : Files → List MatchedPath → Type 0
Settled files matched_paths = list_any is_open matched_paths ≡ false → IsTrue (is_tree files)
