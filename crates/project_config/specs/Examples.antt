-- The definitions on small folders.
use Rattle.std.specs.Prelude.{◌≡◌, refl, true, false, nat_lt, if◌then◌else◌, [], ◌∷◌, length, codes, Some, None}
use Rattle.std.proofs.Common.{ap}
use Rattle.outside_folder.specs.Files.{Bytes, Files}
use Rattle.outside_folder.specs.Folder.{file_limit}
use Rattle.outside_folder.specs.declared.calls.Content.TheVariants.{TooLarge, Bytes as Holds}
use Rattle.project_file.specs.declared.read.ProjectText.{ProjectText}
use Rattle.project_config.specs.Freeze.{kept}
use Rattle.project_config.specs.Project.{first_too_large, freeze_bytes, is_implicit, large_or, project_files, texts_among, with_text}

abbrev main : ProjectText
main = record { path = codes "cabal.project"; bytes = codes "tests: True" }

abbrev local : ProjectText
local = record { path = codes "cabal.project.local"; bytes = codes "tests: False" }

-- its files in byte order; the last is no project file
abbrev two_files : Files
two_files = (codes "cabal.project", main.bytes) ∷ (codes "cabal.project.local", local.bytes) ∷ (codes "p.cabal", []) ∷ []

in_reading_order : texts_among two_files project_files ≡ main ∷ local ∷ []
in_reading_order = refl

none_too_large : first_too_large two_files project_files ≡ None
none_too_large = refl

not_implicit : is_implicit two_files ≡ false
not_implicit = refl

-- an empty file is there
an_empty_one : is_implicit ((codes "cabal.project", []) ∷ []) ≡ false
an_empty_one = refl

implicit : is_implicit ((codes "cabal.project.local", []) ∷ []) ≡ true
implicit = refl

-- ---- the freeze file

no_freeze_file : freeze_bytes two_files ≡ None
no_freeze_file = refl

an_empty_freeze_file : freeze_bytes ((codes "cabal.project.freeze", []) ∷ []) ≡ Some []
an_empty_freeze_file = refl

not_the_local_file : kept (Some main.bytes) local ≡ Some main.bytes
not_the_local_file = refl

-- ---- a file that is too large between two others

module _ (bytes : Bytes) (large : nat_lt file_limit (length bytes) ≡ true) where
  abbrev three_files : Files
  three_files = (codes "cabal.project", main.bytes) ∷ (codes "cabal.project.freeze", bytes) ∷ (codes "cabal.project.local", local.bytes) ∷ []

  none_behind_it : texts_among three_files project_files ≡ main ∷ []
  none_behind_it = ap (λ b. main ∷ with_text (codes "cabal.project.freeze") (if b then TooLarge else Holds bytes) (local ∷ [])) large

  its_path : first_too_large three_files project_files ≡ Some (codes "cabal.project.freeze")
  its_path = ap (λ b. large_or (codes "cabal.project.freeze") (if b then TooLarge else Holds bytes) None) large
