-- The places of matched paths after one more name, and the local files there.
use Rattle.std.proofs.Common.{◌≡◌, Bool, true, false, cond, List, [], ◌∷◌, ◌++◌, ◌&&◌, length, map, Option, Some, None, refl, sym, ap, ◌∙◌, subst, append-nil, arith}
use Rattle.std.specs.Prelude.{filter, flat_map, is_some, not, ◌==◌, Result, Ok, Err, IfOk, IfSome}
use Rattle.std.proofs.lemmas.Bool.{and_parts, false≢true, not-true}
use Rattle.common_laws.specs.Small.{if_some, some_at}
use Rattle.plan_types.specs.Refusal.{Answers, Settles}
use Rattle.plan_types.specs.declared.project.ProjectEntry.{ProjectEntry}
use Rattle.plan_types.specs.declared.refusal.Halt.{Halt}
use Rattle.plan_types.specs.declared.refusal.Halt.TheVariants as halt
use Rattle.outside_folder.specs.Files.{Bytes, Files, file_at, is_tree}
use Rattle.outside_folder.specs.declared.folder.Name.{Name}
use Rattle.project_paths.specs.Entries.{first_crowded, is_crowded, judged, least, unless_crowded}
use Rattle.project_paths.specs.Found.{Finds, cabal_in, files_of, found_at, matched_files, has_files, is_local, is_local_file}
use Rattle.project_paths.specs.Listings.{names_in}
use Rattle.project_paths.specs.Places.{below, is_matched, names_at, path_in, place_in}
use Rattle.project_paths.specs.MatchedPaths.{Leads, dir_of, directory, is_cabal, is_literal, is_looked_up, path_of, plain_file, seen, standing, unless_empty}
use Rattle.project_paths.specs.declared.found.MatchedFiles.{MatchedFiles}
use Rattle.project_paths.specs.declared.places.FolderPlace.{FolderPlace}
use Rattle.project_paths.specs.declared.matched_paths.MatchedPath.{MatchedPath}
use Rattle.project_paths.specs.declared.matched_paths.MatchedPath.TheVariants.{Listed, Literal}
use Rattle.project_paths.proofs.Literal.{literal-below, none-in-file}

-- ---- one more name

-- a literal name leads to its path
pub leads-literal : (files : Files) (dir name : Bytes) → is_literal name ≡ true → Leads files (Literal (path_in dir name) ∷ []) (below files name (directory dir))
leads-literal files dir name h tree =
    let both = and_parts (not (length name == 0)) _ h in
    append-nil (standing files (path_in dir name)) ∙ literal-below dir name both.1 files tree both.0

-- listed matched paths are their own places
listed-seen : (files : Files) (dir : Bytes) (names : List Name) → flat_map (seen files) (map (λ name. Listed (place_in dir name)) names) ≡ map (place_in dir) names
listed-seen files dir [] = refl
listed-seen files dir (n ∷ ns) = ap (λ l. place_in dir n ∷ l) (listed-seen files dir ns)

pub leads-listed : (files : Files) (dir pattern : Bytes) → Leads files (map (λ name. Listed (place_in dir name)) (filter (is_matched pattern) (names_in files dir))) (below files pattern (directory dir))
leads-listed files dir pattern tree = listed-seen files dir (filter (is_matched pattern) (names_in files dir))

-- the places below a matched path are those below its directory
pub below-seen : (files : Files) (pattern : Bytes) (matched : MatchedPath) (dir : Bytes) → is_tree files ≡ true → dir_of matched ≡ Some dir → flat_map (below files pattern) (seen files matched) ≡ below files pattern (directory dir)
below-seen files pattern (Listed place) dir tree is = by place.folder refl is
  where
    by : (folder : Bool) → place.folder ≡ folder → cond folder (Some place.path) None ≡ Some dir → below files pattern place ++ [] ≡ below files pattern (directory dir)
    by true f is =
        let same : place.path ≡ dir = cc is in
        append-nil (below files pattern place) ∙ ap (λ t. below files pattern (record { path = place.path; folder = t })) f ∙ ap (λ path. below files pattern (directory path)) same
    by false f is = absurd (cc is)
below-seen files pattern (Literal path) dir tree is =
    by (is_some (file_at files path)) refl ∙ ap (λ p. below files pattern (directory p)) same
  where
    same : path ≡ dir
    same = cc is

    at : List Name → List FolderPlace
    at names = map (place_in path) (filter (is_matched pattern) names)

    empty : (names : List Name) → names_in files path ≡ names → flat_map (below files pattern) (unless_empty path names) ≡ at names
    empty [] e = refl
    empty (n ∷ ns) e = append-nil (below files pattern (directory path)) ∙ ap at e

    by : (t : Bool) → is_some (file_at files path) ≡ t → flat_map (below files pattern) (cond t (plain_file path ∷ []) (unless_empty path (names_in files path))) ≡ at (names_in files path)
    by true t = sym (ap at (none-in-file files path tree t))
    by false t = empty (names_in files path) refl

module _ (tells : Option Files) (pattern : Bytes) (matched : MatchedPath) (dir : Bytes) (is : dir_of matched ≡ Some dir) where
  -- matched paths that lead to the places below the directory lead to those below the matched path
  pub leads-matched : {E : Type 0} (result : Result (List MatchedPath) E) → IfSome tells (λ files. IfOk result (λ found. Leads files found (below files pattern (directory dir))))
      → IfSome tells (λ files. IfOk result (λ found. Leads files found (flat_map (below files pattern) (seen files matched))))
  leads-matched (Err e) h = if_some _ tells (λ files t. tt)
  leads-matched (Ok found) h = if_some _ tells (λ files t tree. some_at (λ files. Leads files found (below files pattern (directory dir))) tells files t h tree ∙ sym (below-seen files pattern matched dir tree is))

-- ---- the local files of a matched path

abbrev Alike : Bool → Files → MatchedPath → List Bytes → Type 0
Alike folders files matched found = Finds files folders matched (matched_files (path_of matched) found)

-- the matched path is a local file itself
pub finds-file : (folders : Bool) (files : Files) (matched : MatchedPath) → is_local_file folders matched ≡ true → Alike folders files matched (path_of matched ∷ [])
finds-file folders files (Listed place) h tree = by place.folder refl h
  where
    by : (folder : Bool) → place.folder ≡ folder → not folder && is_local folders place.path ≡ true
        → filter has_files (matched_files place.path (place.path ∷ []) ∷ []) ≡ filter has_files (record { path = place.path; files = files_of folders place (names_at files place) } ∷ [])
    by true f h = absurd (false≢true h)
    by false f h = ap (λ fs. filter has_files (matched_files place.path fs ∷ [])) (sym (ap (λ t. cond t (cabal_in place.path (names_at files place)) (cond (is_local folders place.path) (place.path ∷ []) [])) f ∙ ap (λ t. cond t (place.path ∷ []) []) h))
finds-file folders files (Literal path) h tree = absurd (false≢true h)

-- the matched path is neither a directory nor a local file
pub finds-none : (folders : Bool) (files : Files) (matched : MatchedPath) → is_local_file folders matched ≡ false → dir_of matched ≡ None → Alike folders files matched []
finds-none folders files (Listed place) h is tree = by place.folder refl h is
  where
    by : (folder : Bool) → place.folder ≡ folder → not folder && is_local folders place.path ≡ false → cond folder (Some place.path) None ≡ None
        → [] ≡ filter has_files (record { path = place.path; files = files_of folders place (names_at files place) } ∷ [])
    by true f h is = absurd (cc is)
    by false f h is = sym (ap (λ fs. filter has_files (matched_files place.path fs ∷ [])) (ap (λ t. cond t (cabal_in place.path (names_at files place)) (cond (is_local folders place.path) (place.path ∷ []) [])) f ∙ ap (λ t. cond t (place.path ∷ []) []) h))
finds-none folders files (Literal path) h is tree = absurd (cc is)

-- the matched path may be a directory
pub finds-in : (folders : Bool) (files : Files) (matched : MatchedPath) (dir : Bytes) → is_looked_up matched ≡ true → is_local_file folders matched ≡ false → dir_of matched ≡ Some dir → Alike folders files matched (cabal_in dir (names_in files dir))
finds-in folders files (Listed place) dir looked h is tree = by place.folder refl is
  where
    by : (folder : Bool) → place.folder ≡ folder → cond folder (Some place.path) None ≡ Some dir
        → filter has_files (matched_files place.path (cabal_in dir (names_in files dir)) ∷ []) ≡ filter has_files (record { path = place.path; files = files_of folders place (names_at files place) } ∷ [])
    by true f is =
        let same : place.path ≡ dir = cc is in
        ap (λ fs. filter has_files (matched_files place.path fs ∷ [])) (ap (λ d. cabal_in d (names_in files d)) (sym same)
        ∙ sym (ap (λ t. cond t (cabal_in place.path (cond t (names_in files place.path) [])) (cond (is_local folders place.path) (place.path ∷ []) [])) f))
    by false f is = absurd (cc is)
finds-in folders files (Literal path) dir looked h is tree =
    ap (λ d. filter has_files (matched_files path (cabal_in d (names_in files d)) ∷ [])) (sym same) ∙ by (is_some (file_at files path)) refl
  where
    same : path ≡ dir
    same = cc is

    and-none : (a : Bool) → (a && false) ≡ false
    and-none true = refl
    and-none false = refl

    not-local : is_local folders path ≡ false
    not-local = ap (λ t. not folders && t) (not-true (is_cabal path) looked) ∙ and-none (not folders)

    empty : (names : List Name) → names_in files path ≡ names → filter has_files (matched_files path (cabal_in path names) ∷ []) ≡ filter has_files (map (found_at files folders) (unless_empty path names))
    empty [] e = refl
    empty (n ∷ ns) e = ap (λ l. filter has_files (matched_files path (cabal_in path l) ∷ [])) (sym e)

    by : (t : Bool) → is_some (file_at files path) ≡ t
        → filter has_files (matched_files path (cabal_in path (names_in files path)) ∷ []) ≡ filter has_files (map (found_at files folders) (cond t (plain_file path ∷ []) (unless_empty path (names_in files path))))
    by true t =
        ap (λ l. filter has_files (matched_files path (cabal_in path l) ∷ [])) (none-in-file files path tree t)
        ∙ sym (ap (λ b. filter has_files (matched_files path (cond b (path ∷ []) []) ∷ [])) not-local)
    by false t = empty (names_in files path) refl

module _ (tells : Option Files) (folders : Bool) (matched : MatchedPath) (dir : Bytes) (is : dir_of matched ≡ Some dir) where
  -- the local files in the matched path's directory are those of the matched path
  pub found-matched : (found : List Bytes) → is_looked_up matched ≡ true → is_local_file folders matched ≡ false
      → IfSome tells (λ files. found ≡ cabal_in dir (names_in files dir)) → IfSome tells (λ files. Alike folders files matched found)
  found-matched found looked other h = if_some _ tells (λ files t.
      subst (Alike folders files matched) (sym (some_at (λ files. found ≡ cabal_in dir (names_in files dir)) tells files t h))
      (finds-in folders files matched dir looked other is))

-- ---- the answer for an entry

crowded-has : (found : MatchedFiles) → has_files found ≡ false → is_crowded found ≡ false
crowded-has found h = by found.files h
  where
    by : (files : List Bytes) → not (length files == 0) ≡ false → is_crowded (matched_files found.path files) ≡ false
    by [] h = refl
    by (f ∷ fs) h = let some : not (length (f ∷ fs) == 0) ≡ true = grind arith in absurd (false≢true (sym h ∙ some))

crowded-same : (all : List MatchedFiles) → filter is_crowded all ≡ filter is_crowded (filter has_files all)
crowded-same [] = refl
crowded-same (f ∷ fs) = by (crowded-same fs) (has_files f) refl
  where
    by : filter is_crowded fs ≡ filter is_crowded (filter has_files fs) → (t : Bool) → has_files f ≡ t → cond (is_crowded f) (f ∷ filter is_crowded fs) (filter is_crowded fs) ≡ filter is_crowded (cond t (f ∷ filter has_files fs) (filter has_files fs))
    by more true t = ap (λ l. cond (is_crowded f) (f ∷ l) l) more
    by more false t = ap (λ b. cond b (f ∷ filter is_crowded fs) (filter is_crowded fs)) (crowded-has f t) ∙ more

files-same : (all : List MatchedFiles) → flat_map (λ f. f.files) all ≡ flat_map (λ f. f.files) (filter has_files all)
files-same [] = refl
files-same (f ∷ fs) = by (files-same fs) (has_files f) refl
  where
    none : (files : List Bytes) → not (length files == 0) ≡ false → files ≡ []
    none [] h = refl
    none (g ∷ gs) h = let some : not (length (g ∷ gs) == 0) ≡ true = grind arith in absurd (false≢true (sym h ∙ some))

    by : flat_map (λ f. f.files) fs ≡ flat_map (λ f. f.files) (filter has_files fs) → (t : Bool) → has_files f ≡ t → f.files ++ flat_map (λ f. f.files) fs ≡ flat_map (λ f. f.files) (cond t (f ∷ filter has_files fs) (filter has_files fs))
    by more true t = ap (λ l. f.files ++ l) more
    by more false t = ap (λ l. l ++ flat_map (λ f. f.files) fs) (none f.files t) ∙ more

judged-has : (entry : ProjectEntry) (all : List MatchedFiles) → judged entry all ≡ judged entry (filter has_files all)
judged-has entry all =
    ap (λ crowded. unless_crowded (least (map (λ f. f.path) crowded)) entry (flat_map (λ f. f.files) all)) (crowded-same all)
    ∙ ap (unless_crowded (first_crowded (filter has_files all)) entry) (files-same all)

-- places without local files don't change the answer
judged-same : (entry : ProjectEntry) (all found : List MatchedFiles) → filter has_files all ≡ filter has_files found → judged entry all ≡ judged entry found
judged-same entry all found same = judged-has entry all ∙ ap (judged entry) same ∙ sym (judged-has entry found)

pub judged-answers : (entry : ProjectEntry) (all found : List MatchedFiles) → filter has_files all ≡ filter has_files found → (result : Result (List Bytes) Halt)
    → Settles (λ outcome. outcome ≡ judged entry all) result → Answers (λ outcome. outcome ≡ judged entry found) result
judged-answers entry all found same (Ok files) h = h ∙ judged-same entry all found same
judged-answers entry all found same (Err halt.NoMemory) h = tt
judged-answers entry all found same (Err halt.Failed) h = absurd h
judged-answers entry all found same (Err (halt.Refused refusal)) h = h ∙ judged-same entry all found same
