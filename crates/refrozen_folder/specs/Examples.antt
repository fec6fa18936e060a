-- A small folder with another freeze file.
use Rattle.std.specs.Prelude.{◌≡◌, false, refl, [], ◌∷◌, codes, Some}
use Rattle.std.specs.BTreeMap.{insert_entry}
use Rattle.std.specs.Cmp.Lexicographic.{slice_cmp}
use Rattle.std.specs.List.{list_any}
use Rattle.std.specs.Ordering.{nat_cmp}
use Rattle.outside_folder.specs.Files.{Files, file_at, listing, names_in}
use Rattle.refrozen_folder.specs.Refrozen.{freeze_path, is_freeze_dir}

-- a project file, and a local file in a directory
abbrev before : Files
before = (codes "cabal.project", codes "packages: p/") ∷ (codes "p/p.cabal", codes "name: p") ∷ []

abbrev after : Files
after =
    (codes "cabal.project", codes "packages: p/") ∷ (codes "cabal.project.freeze", codes "constraints: a ==1")
    ∷ (codes "p/p.cabal", codes "name: p") ∷ []

there : file_at after freeze_path ≡ Some (codes "constraints: a ==1")
there = refl

no_directory : list_any is_freeze_dir (names_in before []) ≡ false
no_directory = refl

listed_besides : names_in after [] ≡ insert_entry (slice_cmp nat_cmp) (names_in before []) freeze_path false
listed_besides = refl

-- where it was there already, nothing more is listed
listed_once : names_in after [] ≡ insert_entry (slice_cmp nat_cmp) (names_in after []) freeze_path false
listed_once = refl

as_before : listing after (codes "p") ≡ listing before (codes "p")
as_before = refl
