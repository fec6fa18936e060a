-- The places to which patterns lead in a folder with another freeze file.
use Rattle.std.proofs.Common.{◌≡◌, Bool, true, false, cond, not, ◌&&◌, List, [], ◌∷◌, map, flat_map, refl, sym, ap, ap₂, ◌∙◌}
use Rattle.std.specs.Prelude.{filter, fold, if◌then◌else◌, Option, Some, None, unwrap_or}
use Rattle.std.specs.BTreeMap.{insert_entry}
use Rattle.std.specs.Cmp.Lexicographic.{slice_cmp}
use Rattle.std.specs.Ordering.{nat_cmp}
use Rattle.std.proofs.lemmas.Bool.{false≢true}
use Rattle.common_laws.specs.Small.{same-is}
use Rattle.plan_types.specs.Bytes.{same_text}
use Rattle.plan_types.specs.declared.project.ProjectEntry.{ProjectEntry}
use Rattle.outside_folder.specs.declared.folder.Name.{Name}
use Rattle.outside_folder.specs.Files.{Bytes, Files, as_names, names_in as listed_in}
use Rattle.project_paths.specs.Entries.{files_by, is_crowded, judged, least, unless_crowded}
use Rattle.project_paths.specs.Found.{cabal_in, found_at, found_by, matched_files, is_cabal_file, is_local}
use Rattle.project_paths.specs.Listings.{names_in}
use Rattle.project_paths.specs.Local.{all_files, and_then, finished_of, local_files}
use Rattle.project_paths.specs.Patterns.{pattern_of}
use Rattle.project_paths.specs.Places.{below, is_matched, names_at, path_in, place_in, places, root}
use Rattle.refrozen_folder.specs.Refrozen.{IsRefrozen, freeze_path}
use Rattle.refrozen_folder.proofs.Lists.{filter-flat, filter-map, flat-alike, flat-map, flat-same, given_by, map-filter, taken_by}
use Rattle.refrozen_folder.proofs.Root.{Entry, as_name, inserted, same-listed}

-- patterns, places, and paths with their local files
abbrev pub Pattern : Type 0
Pattern = taken_by (found_by [])

abbrev pub FolderPlace : Type 0
FolderPlace = given_by (place_in [])

abbrev pub MatchedFiles : Type 0
MatchedFiles = given_by (matched_files [])

-- whether a place isn't the freeze file
abbrev is_kept : FolderPlace → Bool
is_kept place = not (same_text place.path freeze_path && not place.folder)

-- what it is where it is
record IsFreeze (place : FolderPlace) : Type 0 where
  path : place.path ≡ freeze_path
  folder : place.folder ≡ false

is-parts : (a b : Bool) → not (a && not b) ≡ false → (a ≡ true) × (b ≡ false)
is-parts true true h = absurd (false≢true (sym h))
is-parts true false h = (refl, refl)
is-parts false b h = absurd (false≢true (sym h))

is-freeze : (place : FolderPlace) → is_kept place ≡ false → IsFreeze place
is-freeze place h =
    let parts = is-parts (same_text place.path freeze_path) place.folder h in
    record { path = same-is place.path freeze_path parts.0; folder = parts.1 }

never-local : (folders : Bool) → is_local folders freeze_path ≡ false
never-local true = refl
never-local false = refl

-- of the entry of the freeze file no place is kept
none-kept : (pattern : Bytes) (entry : Entry) → same_text entry.0 freeze_path ≡ true → entry.1 ≡ false → filter is_kept (map (place_in []) (filter (is_matched pattern) (as_name entry ∷ []))) ≡ []
none-kept pattern entry same folder =
    let one : as_name entry ≡ record { text = freeze_path; folder = false } = λ i. record { text = same-is entry.0 freeze_path same i; folder = folder i } in
    ap (λ (name : Name). filter is_kept (map (place_in []) (filter (is_matched pattern) (name ∷ [])))) one
    ∙ elim (is_matched pattern (record { text = freeze_path; folder = false })) as (λ t. filter is_kept (map (place_in []) (cond t (record { text = freeze_path; folder = false } ∷ []) [])) ≡ []) [
      | true ↦ refl
      | false ↦ refl
    ]

module _ (files now : Files) (text : Bytes) (is : IsRefrozen files text now) where
  -- ---- what is found at a place

  same-cabal : (dir : Bytes) → cabal_in dir (names_in now dir) ≡ cabal_in dir (names_in files dir)
  same-cabal dir = same-listed files now text is (λ name. path_in dir name.text) is_cabal_file refl dir

  pub same-found : (folders : Bool) (place : FolderPlace) → found_at now folders place ≡ found_at files folders place
  same-found folders place =
      let local = if is_local folders place.path then place.path ∷ [] else [] in
      ap (matched_files place.path) (elim place.folder as (λ t. (if t then cabal_in place.path (if t then names_in now place.path else []) else local) ≡ (if t then cabal_in place.path (if t then names_in files place.path else []) else local)) [
        | true ↦ same-cabal place.path
        | false ↦ refl
      ])

  -- at the freeze file nothing is
  none-found : (folders : Bool) (place : FolderPlace) → is_kept place ≡ false → (found_at files folders place).files ≡ []
  none-found folders place h =
      let it = is-freeze place h in
      ap (λ t. if t then cabal_in place.path (names_at files place) else if is_local folders place.path then place.path ∷ [] else []) it.folder
      ∙ ap (λ p. if is_local folders p then p ∷ [] else []) it.path ∙ ap (λ t. if t then freeze_path ∷ [] else []) (never-local folders)

  -- ---- places

  -- the places below one, without the freeze file
  abbrev kept_below : Files → Bytes → FolderPlace → List FolderPlace
  kept_below any pattern place = filter is_kept (below any pattern place)

  in-root : (pattern : Bytes) → filter is_kept (map (place_in []) (filter (is_matched pattern) (names_in now []))) ≡ filter is_kept (map (place_in []) (filter (is_matched pattern) (names_in files [])))
  in-root pattern =
      let at = λ (e : Entry). filter is_kept (map (place_in []) (filter (is_matched pattern) (as_name e ∷ []))) in
      let by_entry = λ (es : List Entry). ap (filter is_kept) (map-filter (place_in []) (is_matched pattern) as_name es) ∙ filter-flat is_kept (λ (e : Entry). map (place_in []) (filter (is_matched pattern) (as_name e ∷ []))) es in
      ap (λ es. filter is_kept (map (place_in []) (filter (is_matched pattern) (as_names es)))) is.root
      ∙ by_entry (insert_entry (slice_cmp nat_cmp) (listed_in files []) freeze_path false) ∙ inserted at (none-kept pattern) (listed_in files []) is.free ∙ sym (by_entry (listed_in files []))

  same-below : (pattern : Bytes) (place : FolderPlace) → kept_below now pattern place ≡ kept_below files pattern place
  same-below pattern place =
      elim place.folder as (λ t. filter is_kept (map (place_in place.path) (filter (is_matched pattern) (if t then names_in now place.path else [])))
      ≡ filter is_kept (map (place_in place.path) (filter (is_matched pattern) (if t then names_in files place.path else [])))) [
        | true ↦ in-directory place.path
        | false ↦ refl
      ]
    where
      in-directory : (dir : Bytes) → filter is_kept (map (place_in dir) (filter (is_matched pattern) (names_in now dir))) ≡ filter is_kept (map (place_in dir) (filter (is_matched pattern) (names_in files dir)))
      in-directory [] = in-root pattern
      in-directory (b ∷ bs) = ap (λ o. filter is_kept (map (place_in (b ∷ bs)) (filter (is_matched pattern) (unwrap_or o [])))) (is.below b bs)

  none-below : (pattern : Bytes) (place : FolderPlace) → is_kept place ≡ false → kept_below files pattern place ≡ []
  none-below pattern place h = ap (λ t. filter is_kept (map (place_in place.path) (filter (is_matched pattern) (if t then names_in files place.path else [])))) (is-freeze place h).folder

  same-step : (pattern : Bytes) (ps qs : List FolderPlace) → filter is_kept ps ≡ filter is_kept qs → filter is_kept (flat_map (below now pattern) ps) ≡ filter is_kept (flat_map (below files pattern) qs)
  same-step pattern ps qs same =
      filter-flat is_kept (below now pattern) ps ∙ flat-same (kept_below now pattern) (kept_below files pattern) ps (same-below pattern)
      ∙ flat-alike is_kept (kept_below files pattern) (none-below pattern) ps qs same ∙ sym (filter-flat is_kept (below files pattern) qs)

  same-from : (names : List Bytes) (ps qs : List FolderPlace) → filter is_kept ps ≡ filter is_kept qs
      → filter is_kept (fold (λ found name. flat_map (below now name) found) ps names) ≡ filter is_kept (fold (λ found name. flat_map (below files name) found) qs names)
  same-from [] ps qs same = same
  same-from (name ∷ names) ps qs same = same-from names (flat_map (below now name) ps) (flat_map (below files name) qs) (same-step name ps qs same)

  same-places : (names : List Bytes) → filter is_kept (places now names) ≡ filter is_kept (places files names)
  same-places names = same-from names (root ∷ []) (root ∷ []) refl

  -- ---- local files

  module _ (entry : ProjectEntry) (folders : Bool) where
    abbrev found : FolderPlace → MatchedFiles
    found = found_at files folders

    not-crowded : (place : FolderPlace) → is_kept place ≡ false → filter is_crowded (found place ∷ []) ≡ []
    not-crowded place h = ap (λ (l : List Bytes). filter is_crowded (record { path = place.path; files = l } ∷ [])) (none-found folders place h)

    same-judged : (ps qs : List FolderPlace) → filter is_kept ps ≡ filter is_kept qs → judged entry (map found ps) ≡ judged entry (map found qs)
    same-judged ps qs same =
        let crowded = filter-map is_crowded found ps ∙ flat-alike is_kept (λ p. filter is_crowded (found p ∷ [])) not-crowded ps qs same ∙ sym (filter-map is_crowded found qs) in
        let paths = flat-map (λ (f : MatchedFiles). f.files) found ps ∙ flat-alike is_kept (λ p. (found p).files) (none-found folders) ps qs same ∙ sym (flat-map (λ (f : MatchedFiles). f.files) found qs) in
        ap₂ (λ (c : List MatchedFiles) (l : List Bytes). unless_crowded (least (map (λ (f : MatchedFiles). f.path) c)) entry l) crowded paths

  same-by : (entry : ProjectEntry) (pattern : Option Pattern) → files_by now entry pattern ≡ files_by files entry pattern
  same-by entry None = refl
  same-by entry (Some pattern) =
      ap (λ (f : FolderPlace → MatchedFiles). judged entry (map f (places now pattern.names))) (λ i place. same-found pattern.folders place i)
      ∙ same-judged entry pattern.folders (places now pattern.names) (places files pattern.names) (same-places pattern.names)

  same-all : (entries : List ProjectEntry) → all_files now entries ≡ all_files files entries
  same-all [] = refl
  same-all (entry ∷ entries) = ap₂ and_then (same-by entry (pattern_of entry.text)) (same-all entries)

  pub same-locals : (entries : List ProjectEntry) → local_files now entries ≡ local_files files entries
  same-locals entries = ap finished_of (same-all entries)
