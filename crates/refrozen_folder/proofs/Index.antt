-- The index of a folder with another freeze file.
use Rattle.std.proofs.Common.{◌≡◌, ℕ, ◌+◌, Bool, true, false, List, [], ◌∷◌, ◌++◌, map, flat_map, Result, Ok, Err, refl, sym, ap, ◌∙◌, subst}
use Rattle.std.specs.Prelude.{codes, filter, unwrap_or}
use Rattle.std.specs.List.{list_all}
use Rattle.std.proofs.lemmas.Bool.{and_parts, false≢true}
use Rattle.plan_types.specs.declared.condition.Env.{Env}
use Rattle.plan_types.specs.declared.dependency.Named.{Named}
use Rattle.plan_types.specs.declared.index.Index.{Index}
use Rattle.plan_types.specs.declared.index.Places.{Places}
use Rattle.plan_types.specs.declared.refusal.Refusal.{Refusal}
use Rattle.outside_folder.specs.declared.folder.Name.{Name}
use Rattle.outside_folder.specs.Files.{Bytes, Files, listing}
use Rattle.index_files.specs.Closure.{Ground, HasVersions, IsClosure, IsPart, IsReached, IsVisit, ReadsAs, Visit, by_name, is_local, root, visited_files}
use Rattle.index_files.specs.File.{content_found, count_all, file_found, size_all}
use Rattle.index_files.specs.InTurn.{GoesOn}
use Rattle.index_files.specs.Locals.{AreLocals}
use Rattle.index_files.specs.Places.{name_dir, record_path, release_path, under}
use Rattle.index_files.specs.Readings.{AreIndexed, AreReadings}
use Rattle.index_files.specs.Releases.{AreReleases, AreVersions, names_below, version_dir}
use Rattle.index_files.specs.Totals.{is_too_many}
use Rattle.index_files.specs.Units.{AreUnitsOf, is_record, record_files}
use Rattle.index_files.specs.declared.local.Local.{Local}
use Rattle.index_files.specs.declared.readings.Readings.{Readings}
use Rattle.index_files.specs.declared.unit.Unit.{Unit}
use Rattle.index_assembly.specs.Folder.{IsFolderIndex}
use Rattle.refrozen_folder.specs.Refrozen.{IsRefrozen}
use Rattle.refrozen_folder.proofs.Lists.{each-further, given_by, listed_by, map-alike, map-each}
use Rattle.refrozen_folder.proofs.Root.{has_slash, is_other, same-content, same-listed, slash-before, slash-last, slash-other}

-- files as they are read
abbrev ReadFile : Type 0
ReadFile = given_by (file_found true [])

-- directories of versions
abbrev VersionDir : Type 0
VersionDir = listed_by (version_dir [])

module _ (files now : Files) (text : Bytes) (is : IsRefrozen files text now) where
  -- ---- files at paths

  same-file : (listed : Bool) (path : Bytes) → is_other path ≡ true → file_found listed now path ≡ file_found listed files path
  same-file listed path other = ap (λ content. record { path = path; content = content_found listed content }) (same-content files now text is path other)

  same-files : (listed : Bool) (paths : List Bytes) → list_all is_other paths ≡ true → map (file_found listed now) paths ≡ map (file_found listed files) paths
  same-files listed [] h = refl
  same-files listed (path ∷ paths) h =
      let parts = and_parts (is_other path) (list_all is_other paths) h in
      ap (λ (f : ReadFile). f ∷ map (file_found listed now) paths) (same-file listed path parts.0) ∙ ap (λ (l : List ReadFile). file_found listed files path ∷ l) (same-files listed paths parts.1)

  -- paths in directories
  same-slashed : {X : Type 0} (listed : Bool) (path : X → Bytes) (slashed : (x : X) → has_slash (path x) ≡ true) (xs : List X)
      → map (file_found listed now) (map path xs) ≡ map (file_found listed files) (map path xs)
  same-slashed listed path slashed xs =
      map-alike (file_found listed now) (file_found listed files) (map path xs)
      (map-each (λ p. file_found listed now p ≡ file_found listed files p) path xs (λ x. same-file listed (path x) (slash-other (path x) (slashed x))))

  -- ---- records

  under-slashed : (dir name : Bytes) → has_slash (under dir name) ≡ true
  under-slashed dir name = slash-before (dir ++ codes "/") name (slash-last dir)

  same-records : (places : Places) → record_files places now ≡ record_files places files
  same-records places =
      ap (map (file_found true now)) (same-listed files now text is (λ name. record_path places name.text) is_record refl places.installed)
      ∙ same-slashed true (λ (name : Name). record_path places name.text) (λ (name : Name). under-slashed places.installed name.text) (filter is_record (unwrap_or (listing files places.installed) []))

  -- ---- versions and releases

  same-listing : (dir : Bytes) → has_slash dir ≡ true → listing now dir ≡ listing files dir
  same-listing [] h = absurd (false≢true h)
  same-listing (b ∷ bs) h = is.below b bs

  same-names : (places : Places) (name : Bytes) → names_below places now name ≡ names_below places files name
  same-names places name = ap (λ o. unwrap_or o []) (same-listing (name_dir places name) (under-slashed places.index name))

  release-slashed : (places : Places) (name dir : Bytes) → has_slash (release_path places name dir) ≡ true
  release-slashed places name dir =
      let front = name_dir places name ++ codes "/" ++ dir in
      slash-before (front ++ codes "/" ++ name) (codes ".cabal") (slash-before (front ++ codes "/") name (slash-last front))

  same-visited : (ground : Ground) (visit : Visit) → visited_files ground now visit ≡ visited_files ground files visit
  same-visited ground visit =
      same-slashed false (λ (dir : VersionDir). release_path ground.places visit.name dir.text) (λ (dir : VersionDir). release-slashed ground.places visit.name dir.text) visit.dirs

  module _ (ground : Ground) where
    reads-as : (visit : Visit) (local : Bool) → ReadsAs ground files visit local → ReadsAs ground now visit local
    reads-as visit true h = h
    reads-as visit false h = record {
      versions = subst (λ names. AreVersions names visit.dirs) (sym (same-names ground.places visit.name)) h.versions;
      releases = subst (λ fs. AreReleases ground.env visit.name visit.dirs fs visit.releases) (sym (same-visited ground visit)) h.releases;
    }

    is-visit : (visit : Visit) → IsVisit ground files visit → IsVisit ground now visit
    is-visit visit h = reads-as visit (is_local ground visit.name) h

    is-reached : {name : Bytes} → IsReached ground files name → IsReached ground now name
    is-reached (root name listed) = root name listed
    is-reached (by_name visit name reached read mentions) = by_name visit name (is-reached reached) (is-visit visit read) mentions

    is-closure : (visits : List Visit) → IsClosure ground files visits → IsClosure ground now visits
    is-closure visits h = record {
      once = h.once;
      begun = h.begun;
      closed = h.closed;
      reached = each-further (λ visit. IsReached ground files visit.name) (λ visit. IsReached ground now visit.name) visits (λ visit r. is-reached r) h.reached;
      read = each-further (IsVisit ground files) (IsVisit ground now) visits is-visit h.read;
    }

    has-versions : (visit : Visit) (local : Bool) → HasVersions ground files visit local → HasVersions ground now visit local
    has-versions visit true h = h
    has-versions visit false h = subst (λ names. AreVersions names visit.dirs) (sym (same-names ground.places visit.name)) h

    is-part : (visit : Visit) → IsPart ground files visit → IsPart ground now visit
    is-part visit h = record { reached = is-reached h.reached; versions = has-versions visit (is_local ground visit.name) h.versions }

    same-many : (count size : ℕ) (visits : List Visit) → is_too_many (count + count_all (flat_map (visited_files ground now) visits)) (size + size_all (flat_map (visited_files ground now) visits))
        ≡ is_too_many (count + count_all (flat_map (visited_files ground files) visits)) (size + size_all (flat_map (visited_files ground files) visits))
    same-many count size visits =
        ap (λ (f : Visit → List ReadFile). is_too_many (count + count_all (flat_map f visits)) (size + size_all (flat_map f visits))) (λ i visit. same-visited ground visit i)

    is-indexed : (count size : ℕ) (outcome : Result Readings Refusal) → AreIndexed ground count size files outcome → AreIndexed ground count size now outcome
    is-indexed count size (Ok readings) h = record {
      locals = h.locals;
      units = h.units;
      found = record {
        visits = h.found.visits;
        closure = is-closure h.found.visits h.found.closure;
        few = same-many count size h.found.visits ∙ h.found.few;
        found_is = h.found.found_is;
      };
    }
    is-indexed count size (Err refusal) h = record {
      beyond = record {
        parts = h.beyond.parts;
        once = h.beyond.once;
        inside = each-further (IsPart ground files) (IsPart ground now) h.beyond.parts is-part h.beyond.inside;
        many = same-many count size h.beyond.parts ∙ h.beyond.many;
      };
      refusal_is = h.refusal_is;
    }

  -- ---- all that is read

  module _ (env : Env) (places : Places) (extra : List Named) (outcome : Result Readings Refusal) where
    abbrev ground : List Local → List Unit → Ground
    ground locals units = record { env = env; places = places; locals = locals; units = units; extra = extra }

    from-units : (locals : List Local) (units : Result (List Unit) Refusal)
        → GoesOn units (λ units. AreIndexed (ground locals units) (count_all (record_files places files)) (size_all (record_files places files)) files outcome) outcome
        → GoesOn units (λ units. AreIndexed (ground locals units) (count_all (record_files places now)) (size_all (record_files places now)) now outcome) outcome
    from-units locals (Ok units) h =
        subst (λ (fs : List ReadFile). AreIndexed (ground locals units) (count_all fs) (size_all fs) now outcome) (sym (same-records places))
        (is-indexed (ground locals units) (count_all (record_files places files)) (size_all (record_files places files)) outcome h)
    from-units locals (Err refusal) h = h

    from-locals : (paths : List Bytes) → list_all is_other paths ≡ true → AreReadings env places extra paths files outcome → AreReadings env places extra paths now outcome
    from-locals paths others (Ok locals, reads, (units, records, h)) = (
      Ok locals,
      subst (λ (fs : List ReadFile). AreLocals env fs (Ok locals)) (sym (same-files true paths others)) reads,
      (units, subst (λ (fs : List ReadFile). AreUnitsOf places fs units) (sym (same-records places)) records, from-units locals units h),
    )
    from-locals paths others (Err refusal, reads, h) = (Err refusal, subst (λ (fs : List ReadFile). AreLocals env fs (Err refusal)) (sym (same-files true paths others)) reads, h)

  pub same-index : (env : Env) (places : Places) (extra : List Named) (paths : List Bytes) (index : Result Index Refusal) → list_all is_other paths ≡ true
      → IsFolderIndex env places extra paths files index → IsFolderIndex env places extra paths now index
  same-index env places extra paths index others (readings, reads, gathers) = (readings, from-locals env places extra readings paths others reads, gathers)
