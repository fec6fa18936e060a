-- No local file is the freeze file.
use Rattle.std.proofs.Common.{◌≡◌, Bool, true, false, List, [], ◌∷◌, map, flat_map, Option, Some, None, Result, Ok, Err, refl, ◌∙◌, subst}
use Rattle.std.specs.Prelude.{filter, if◌then◌else◌}
use Rattle.std.specs.Cmp.Lexicographic.{slice_cmp}
use Rattle.std.specs.List.{list_all}
use Rattle.std.specs.Ordering.{nat_cmp}
use Rattle.std.proofs.lemmas.Bool.{and_from, and_parts}
use Rattle.common_laws.specs.Lists.{all-append, all-from, contains-filter, contains-map}
use Rattle.plan_types.specs.declared.project.ProjectEntry.{ProjectEntry}
use Rattle.plan_types.specs.declared.refusal.Cause.TheVariants.{NoMatch}
use Rattle.plan_types.specs.declared.refusal.Refusal.{Refusal}
use Rattle.outside_folder.specs.declared.folder.Name.{Name}
use Rattle.outside_folder.specs.Files.{Bytes, Files}
use Rattle.project_paths.specs.Entries.{files_by, first_crowded, refusal_of, unless_crowded}
use Rattle.project_paths.specs.Found.{cabal_in, found_at, found_by, is_cabal_file, is_local}
use Rattle.project_paths.specs.Local.{all_files, and_then, finished_of, in_order, local_files, unless_none as unless_no_paths}
use Rattle.project_paths.specs.Patterns.{pattern_of}
use Rattle.project_paths.specs.Places.{names_at, path_in, places}
use Rattle.project_paths.specs.MatchedPaths.{is_cabal}
use Rattle.refrozen_folder.proofs.Lists.{all-in-order}
use Rattle.refrozen_folder.proofs.Places.{FolderPlace, MatchedFiles, Pattern}
use Rattle.refrozen_folder.proofs.Root.{is_other, other-by, slash-inside, slash-other}

-- paths of which none is that of the freeze file, or a refusal
abbrev pub AreOthers : Result (List Bytes) Refusal → Type 0
AreOthers (Ok paths) = list_all is_other paths ≡ true
AreOthers (Err refusal) = Unit {0}

cabal-other : (dir name : Bytes) → is_cabal name ≡ true → is_other (path_in dir name) ≡ true
cabal-other [] name h = other-by is_cabal refl name h
cabal-other (b ∷ bs) name h = slash-other (path_in (b ∷ bs) name) (slash-inside (b ∷ bs) name)

others-in : (dir : Bytes) (names : List Name) → list_all is_other (cabal_in dir names) ≡ true
others-in dir names = all-from is_other (cabal_in dir names) (λ path k.
    let (name, among, same) = contains-map (λ (n : Name). path_in dir n.text) (filter is_cabal_file names) path k in
    let passes = (contains-filter is_cabal_file names name among).1 in
    subst (λ p. is_other p ≡ true) same (cabal-other dir name.text (and_parts _ (is_cabal name.text) passes).1))

others-at : (files : Files) (folders : Bool) (place : FolderPlace) → list_all is_other (found_at files folders place).files ≡ true
others-at files folders place =
    elim place.folder as (λ t. list_all is_other (if t then cabal_in place.path (names_at files place) else if is_local folders place.path then place.path ∷ [] else []) ≡ true) [
      | true ↦ others-in place.path (names_at files place)
      | false ↦ elim (is_local folders place.path) as (λ t. is_local folders place.path ≡ t → list_all is_other (if t then place.path ∷ [] else []) ≡ true) [
        | true ↦ λ local. and_from (is_other place.path) true (other-by is_cabal refl place.path (and_parts _ (is_cabal place.path) local).1) refl
        | false ↦ λ no. refl
      ] refl
    ]

others-found : (files : Files) (folders : Bool) (ps : List FolderPlace) → list_all is_other (flat_map (λ (f : MatchedFiles). f.files) (map (found_at files folders) ps)) ≡ true
others-found files folders [] = refl
others-found files folders (place ∷ ps) =
    let here = (found_at files folders place).files in
    let later = flat_map (λ (f : MatchedFiles). f.files) (map (found_at files folders) ps) in
    all-append is_other here later ∙ and_from (list_all is_other here) (list_all is_other later) (others-at files folders place) (others-found files folders ps)

others-judged : (entry : ProjectEntry) (crowded : Option Bytes) (paths : List Bytes) → list_all is_other paths ≡ true → AreOthers (unless_crowded crowded entry paths)
others-judged entry (Some dir) paths h = tt
others-judged entry None [] h = elim entry.optional as (λ t. AreOthers (if t then Ok [] else Err (refusal_of entry NoMatch entry.text))) [ true ↦ refl | false ↦ tt ]
others-judged entry None (path ∷ paths) h = h

others-by : (files : Files) (entry : ProjectEntry) (pattern : Option Pattern) → AreOthers (files_by files entry pattern)
others-by files entry None = tt
others-by files entry (Some pattern) =
    let found = found_by files pattern in
    others-judged entry (first_crowded found) (flat_map (λ (f : MatchedFiles). f.files) found) (others-found files pattern.folders (places files pattern.names))

others-both : (a b : Result (List Bytes) Refusal) → AreOthers a → AreOthers b → AreOthers (and_then a b)
others-both (Err refusal) b h k = tt
others-both (Ok paths) (Err refusal) h k = tt
others-both (Ok paths) (Ok more) h k = all-append is_other paths more ∙ and_from (list_all is_other paths) (list_all is_other more) h k

others-all : (files : Files) (entries : List ProjectEntry) → AreOthers (all_files files entries)
others-all files [] = refl
others-all files (entry ∷ entries) = others-both (files_by files entry (pattern_of entry.text)) (all_files files entries) (others-by files entry (pattern_of entry.text)) (others-all files entries)

others-unless : (paths : List Bytes) → list_all is_other paths ≡ true → AreOthers (unless_no_paths paths)
others-unless [] h = tt
others-unless (path ∷ paths) h = h

others-finished : (found : Result (List Bytes) Refusal) → AreOthers found → AreOthers (finished_of found)
others-finished (Err refusal) h = tt
others-finished (Ok paths) h = others-unless (in_order paths) (all-in-order (slice_cmp nat_cmp) is_other paths [] refl h)

pub locals-other : (files : Files) (entries : List ProjectEntry) → AreOthers (local_files files entries)
locals-other files entries = others-finished (all_files files entries) (others-all files entries)
