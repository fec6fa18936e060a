-- The places in a folder that the names of a pattern match.
use Rattle.std.specs.Prelude.{Bool, true, if◌then◌else◌, List, [], ◌∷◌, ◌++◌, map, filter, flat_map, fold}
use Rattle.outside_folder.specs.Files.{Bytes, Files, slash}
use Rattle.outside_folder.specs.declared.folder.Name.{Name}
use Rattle.project_paths.specs.Listings.{names_in}
use Rattle.project_paths.specs.Wildcards.{matches}
use Rattle.project_paths.specs.declared.places.FolderPlace.{FolderPlace}

-- the path of a name in a directory
abbrev pub path_in : Bytes → Bytes → Bytes
path_in [] name = name
path_in (b ∷ bs) name = (b ∷ bs) ++ slash ∷ name

-- the place of a name in a directory
abbrev pub place_in : Bytes → Name → FolderPlace
place_in dir name = record { path = path_in dir name.text; folder = name.folder }

-- the names at a place; a file has none
abbrev pub names_at : Files → FolderPlace → List Name
names_at files place = if place.folder then names_in files place.path else []

-- whether a name in a directory matches a pattern
abbrev pub is_matched : Bytes → Name → Bool
is_matched pattern name = matches pattern name.text

-- the places in a directory whose names match a pattern
abbrev pub below : Files → Bytes → FolderPlace → List FolderPlace
below files pattern place = map (place_in place.path) (filter (is_matched pattern) (names_at files place))

-- the root of the folder
abbrev pub root : FolderPlace
root = record { path = []; folder = true }

-- the places that the names of a pattern match, one directory level after the other from the root
abbrev pub places : Files → List Bytes → List FolderPlace
places files names = fold (λ found name. flat_map (below files name) found) (root ∷ []) names
