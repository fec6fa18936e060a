-- The visit of a name: its versions and releases; none of these without a file.
use Rattle.std.proofs.Common.{◌≡◌, Bool, true, false, List, [], ◌∷◌, ◌++◌, refl, sym, ◌∙◌, subst, arith}
use Rattle.std.proofs.lemmas.List.Sums.{sum_by-append}
use Rattle.plan_types.specs.declared.condition.Env.{Env}
use Rattle.plan_types.specs.declared.version.Version.{Version}
use Rattle.outside_folder.specs.Files.{Bytes, Files}
use Rattle.outside_folder.specs.declared.calls.Content.{Content}
use Rattle.outside_folder.specs.declared.calls.Content.TheVariants.{Missing, TooLarge, Bytes as Holds}
use Rattle.outside_folder.specs.declared.folder.Name.{Name}
use Rattle.index_files.specs.Closure.{Ground, IsVisit, ReadsAs, is_local}
use Rattle.index_files.specs.File.{count_all, count_of}
use Rattle.index_files.specs.Releases.{AreReleases, AreVersions, IsOneRelease, IsReleaseIn, files_below, judged_as, names_below, version_dir}
use Rattle.index_files.specs.declared.release.Release.{Release}
use Rattle.every_reading.proofs.LoopReadings.{version_or_none}
use Rattle.every_reading.proofs.FolderReadings.{comes}

some_versions : (names : List Name) → (dirs : _) × AreVersions names dirs
some_versions [] = ([], refl)
some_versions (name ∷ names) =
    let version = version_or_none name.text in
    let more = some_versions names in
    (version_dir name.text version.0 ++ more.0, (version.0, more.0, version.1, more.1, refl))

module _ (env : Env) (name : Bytes) where
  one_release : (version : Version) (path : Bytes) (content : Content) → (releases : List Release) × IsOneRelease env name version path content releases
  one_release version path content =
      let outcome = comes env content in
      let judged = judged_as name version outcome.0 in
      (record { path = path; judged = judged } ∷ [], (judged, (outcome.0, outcome.1, refl), refl))

  release_in : (version : Version) (path : Bytes) (content : Content) → (releases : List Release) × IsReleaseIn env name version path content releases
  release_in version path Missing = ([], refl)
  release_in version path TooLarge = one_release version path TooLarge
  release_in version path (Holds bytes) = one_release version path (Holds bytes)

  some_releases : (dirs : _) (files : _) → (releases : List Release) × AreReleases env name dirs files releases
  some_releases [] files = ([], refl)
  some_releases (dir ∷ dirs) [] = ([], refl)
  some_releases (dir ∷ dirs) (file ∷ files) =
      let here = release_in dir.version file.path file.content in
      let more = some_releases dirs files in
      (here.0 ++ more.0, (here.0, more.0, here.1, more.1, refl))

  -- ---- files that count as none

  none_in : (version : Version) (path : Bytes) (content : Content) (releases : List Release) → count_of (record { path = path; content = content }) ≡ 0
      → IsReleaseIn env name version path content releases → releases ≡ []
  none_in version path Missing releases none h = h
  none_in version path TooLarge releases none h = absurd (omega (arith, none))
  none_in version path (Holds bytes) releases none h = absurd (omega (arith, none))

  pub none_read : (dirs : _) (files : _) (releases : List Release) → count_all files ≡ 0 → AreReleases env name dirs files releases → releases ≡ []
  none_read [] files releases none h = h
  none_read (dir ∷ dirs) [] releases none h = h
  none_read (dir ∷ dirs) (file ∷ files) releases none h =
      let both = sum_by-append count_of (file ∷ []) files in
      let here = none_in dir.version file.path file.content h.0 (omega (arith, both, none)) h.2 in
      let more = none_read dirs files h.1 (omega (arith, both, none)) h.3 in
      h.4 ∙ (λ i. here i ++ more i)

module _ (ground : Ground) (files : Files) (name : Bytes) where
  abbrev Found : Type 0
  Found = (dirs : _) × (releases : List Release) × IsVisit ground files (record { name = name; dirs = dirs; releases = releases })

  visit_as : (t : Bool) → is_local ground name ≡ t → Found
  visit_as true q = ([], [], subst (ReadsAs ground files (record { name = name; dirs = []; releases = [] })) (sym q) (record { no_versions = refl; no_releases = refl }))
  visit_as false q =
      let dirs = some_versions (names_below ground.places files name) in
      let releases = some_releases ground.env name dirs.0 (files_below ground.places files name dirs.0) in (
        dirs.0,
        releases.0,
        subst (ReadsAs ground files (record { name = name; dirs = dirs.0; releases = releases.0 })) (sym q) (record { versions = dirs.1; releases = releases.1 }),
      )

  pub some_visit : Found
  some_visit = visit_as (is_local ground name) refl
