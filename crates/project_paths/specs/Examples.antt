-- Examples of the definitions on small folders.
use Rattle.std.specs.Prelude.{◌≡◌, refl, true, false, [], ◌∷◌, codes, Bool, Some, None, Ok, Err}
use Rattle.plan_types.specs.declared.project.ProjectEntry.{ProjectEntry}
use Rattle.plan_types.specs.declared.refusal.Cause.TheVariants.{NoMatch, TwoCabalFiles}
use Rattle.outside_folder.specs.Files.{Bytes, Files}
use Rattle.project_paths.specs.Entries.{refusal_of}
use Rattle.project_paths.specs.Local.{local_files, no_packages}
use Rattle.project_paths.specs.Patterns.{pattern_of}
use Rattle.project_paths.specs.MatchedPaths.{directory, is_literal, is_taken, plain_file, standing}
use Rattle.project_paths.specs.Wildcards.{matches}

a_directory : pattern_of (codes "./a/b/") ≡ Some (record { names = codes "a" ∷ codes "b" ∷ []; folders = true })
a_directory = refl

out_of_the_root : pattern_of (codes "a/../b") ≡ None
out_of_the_root = refl

a_star : matches (codes "p*-*.cabal") (codes "p-1-2.cabal") ≡ true
a_star = refl

no_point_by_a_star : matches (codes "*.cabal") (codes ".cabal") ≡ false
no_point_by_a_star = refl

abbrev entry : Bytes → Bool → ProjectEntry
entry text optional = record { path = codes "cabal.project"; line = 1; text = text; optional = optional }

abbrev files : Files
files = (codes "b/p.cabal", []) ∷ (codes "a/p.cabal", []) ∷ (codes "c/p.cabal", []) ∷ (codes "c/q.cabal", []) ∷ []

in_byte_order : local_files files (entry (codes "b") false ∷ entry (codes "a") false ∷ entry (codes "b/*.cabal") false ∷ []) ≡ Ok (codes "a/p.cabal" ∷ codes "b/p.cabal" ∷ [])
in_byte_order = refl

two_files : local_files files (entry (codes "*") false ∷ []) ≡ Err (refusal_of (entry (codes "*") false) TwoCabalFiles (codes "c"))
two_files = refl

no_match : local_files files (entry (codes "a/x") false ∷ entry (codes "*") false ∷ []) ≡ Err (refusal_of (entry (codes "a/x") false) NoMatch (codes "a/x"))
no_match = refl

nothing_at_all : local_files files (entry (codes "a/x") true ∷ []) ≡ Err no_packages
nothing_at_all = refl

a_literal : is_literal (codes "p.cabal") ≡ true
a_literal = refl

no_literal : is_literal (codes "p*") ≡ false
no_literal = refl

a_directory_taken : is_taken (codes "p") ≡ true
a_directory_taken = refl

a_file_looked_up : is_taken (codes "p.cabal") ≡ false
a_file_looked_up = refl

a_file_stands : standing files (codes "a/p.cabal") ≡ plain_file (codes "a/p.cabal") ∷ []
a_file_stands = refl

a_directory_stands : standing files (codes "a") ≡ directory (codes "a") ∷ []
a_directory_stands = refl

nothing_stands : standing files (codes "p.cabal") ≡ []
nothing_stands = refl
