-- The visit of a name is unique, and its files are release files of that name.
use Rattle.std.proofs.Common.{◌≡◌, Bool, true, false, List, [], ◌∷◌, ◌++◌, Option, Some, None, refl, sym, ◌∙◌, ap, subst}
use Rattle.std.specs.List.{AllByRecursion}
use Rattle.plan_types.specs.declared.condition.Env.{Env}
use Rattle.plan_types.specs.declared.version.Version.{Version}
use Rattle.version_range.proofs.VersionNumbers.{one_version, version_from}
use Rattle.outside_folder.specs.Files.{Bytes, Files}
use Rattle.outside_folder.specs.declared.calls.Content.{Content}
use Rattle.outside_folder.specs.declared.calls.Content.TheVariants.{Missing, TooLarge, Bytes as Holds}
use Rattle.outside_folder.specs.declared.folder.Name.{Name}
use Rattle.index_files.specs.Closure.{Ground, HasVersions, IsVisit, ReadsAs, Visit, is_local}
use Rattle.index_files.specs.File.{file_found}
use Rattle.index_files.specs.Places.{release_path}
use Rattle.index_files.specs.Releases.{AreReleases, AreVersions, IsJudged, IsOneRelease, IsReleaseIn, files_below, judged_as, names_below, version_dir}
use Rattle.plan_types.specs.declared.index.Places.{Places}
use Rattle.index_files.specs.declared.release.Judged.{Judged}
use Rattle.index_files.specs.declared.release.Release.{Release}
use Rattle.package_index.proofs.Outcomes.{HasOneSource, one-comes}
use Rattle.package_index.proofs.Paths.{HasNoSlash, IsPathOf, version-alone}
use Rattle.common_laws.specs.Each.{each-append}
use Rattle.version_range.specs.Version.{IsVersionOf}

-- ---- versions

one-version-in : (text : Bytes) (v w : Option Version) → IsVersionOf text v → IsVersionOf text w → v ≡ w
one-version-in text None None h k = refl
one-version-in text None (Some w) h k = absurd (h w.parts k.0 k.1)
one-version-in text (Some v) None h k = absurd (k v.parts h.0 h.1)
one-version-in text (Some v) (Some w) h k =
    ap (λ n. Some (record { parts = n })) (one_version v.parts w.parts (version_from v.parts h.0) (version_from w.parts k.0) (sym h.1 ∙ k.1))

pub one-versions : (names : List Name) (a b : _) → AreVersions names a → AreVersions names b → a ≡ b
one-versions [] a b h k = h ∙ sym k
one-versions (name ∷ names) a b h k =
    h.4 ∙ ap (λ v. version_dir name.text v ++ h.1) (one-version-in name.text h.0 k.0 h.2 k.2)
    ∙ ap (λ more. version_dir name.text k.0 ++ more) (one-versions names h.1 k.1 h.3 k.3) ∙ sym k.4

-- ---- releases

module _ (one_source : HasOneSource) where
  one-judged : (env : Env) (name : Bytes) (version : Version) (content : Content) (a b : Judged) → IsJudged env name version content a → IsJudged env name version content b → a ≡ b
  one-judged env name version content a b h k = h.2 ∙ ap (judged_as name version) (one-comes one_source env content h.0 k.0 h.1 k.1) ∙ sym k.2

  one-release : (env : Env) (name : Bytes) (version : Version) (path : Bytes) (content : Content) (a b : List Release)
      → IsOneRelease env name version path content a → IsOneRelease env name version path content b → a ≡ b
  one-release env name version path content a b h k =
      h.2 ∙ ap (λ judged. record { path = path; judged = judged } ∷ []) (one-judged env name version content h.0 k.0 h.1 k.1) ∙ sym k.2

  one-release-in : (env : Env) (name : Bytes) (version : Version) (path : Bytes) (content : Content) (a b : List Release)
      → IsReleaseIn env name version path content a → IsReleaseIn env name version path content b → a ≡ b
  one-release-in env name version path Missing a b h k = h ∙ sym k
  one-release-in env name version path TooLarge a b h k = one-release env name version path TooLarge a b h k
  one-release-in env name version path (Holds bytes) a b h k = one-release env name version path (Holds bytes) a b h k

  one-releases : (env : Env) (name : Bytes) (dirs : _) (files : _) (a b : List Release) → AreReleases env name dirs files a → AreReleases env name dirs files b → a ≡ b
  one-releases env name [] files a b h k = h ∙ sym k
  one-releases env name (dir ∷ dirs) [] a b h k = h ∙ sym k
  one-releases env name (dir ∷ dirs) (file ∷ files) a b h k =
      h.4 ∙ ap (λ here. here ++ h.1) (one-release-in env name dir.version file.path file.content h.0 k.0 h.2 k.2)
      ∙ ap (λ more. k.0 ++ more) (one-releases env name dirs files h.1 k.1 h.3 k.3) ∙ sym k.4

-- ---- a name

module _ (ground : Ground) (files : Files) where
  -- the versions of a name are unique

  one-dirs : (name : Bytes) (local : Bool) (d e : _) (r s : List Release)
      → HasVersions ground files (record { name = name; dirs = d; releases = r }) local → HasVersions ground files (record { name = name; dirs = e; releases = s }) local → d ≡ e
  one-dirs name true d e r s h k = h ∙ sym k
  one-dirs name false d e r s h k = one-versions (names_below ground.places files name) d e h k

  pub same-dirs : (v w : Visit) → v.name ≡ w.name → HasVersions ground files v (is_local ground v.name) → HasVersions ground files w (is_local ground w.name) → v.dirs ≡ w.dirs
  same-dirs v w e h k =
      one-dirs v.name (is_local ground v.name) v.dirs w.dirs v.releases w.releases h
      (subst (λ name. HasVersions ground files (record { name = name; dirs = w.dirs; releases = w.releases }) (is_local ground name)) (sym e) k)

  read-versions : (v : Visit) (local : Bool) → ReadsAs ground files v local → HasVersions ground files v local
  read-versions v true h = h.no_versions
  read-versions v false h = h.versions

  pub has-versions : (v : Visit) → IsVisit ground files v → HasVersions ground files v (is_local ground v.name)
  has-versions v h = read-versions v (is_local ground v.name) h

  -- all that is read of a name is unique

  module _ (one_source : HasOneSource) where
    one-read : (name : Bytes) (local : Bool) (d e : _) (r s : List Release)
        → ReadsAs ground files (record { name = name; dirs = d; releases = r }) local → ReadsAs ground files (record { name = name; dirs = e; releases = s }) local
        → ◌≡◌ {A = Visit} (record { name = name; dirs = d; releases = r }) (record { name = name; dirs = e; releases = s })
    one-read name true d e r s h k =
        let dirs = h.no_versions ∙ sym k.no_versions in
        let releases = h.no_releases ∙ sym k.no_releases in
        λ i. record { name = name; dirs = dirs i; releases = releases i }
    one-read name false d e r s h k =
        let dirs = one-versions (names_below ground.places files name) d e h.versions k.versions in
        let here = subst (λ ds. AreReleases ground.env name ds (files_below ground.places files name ds) r) dirs h.releases in
        let releases = one-releases one_source ground.env name e (files_below ground.places files name e) r s here k.releases in
        λ i. record { name = name; dirs = dirs i; releases = releases i }

    pub one-visit : (v w : Visit) → v.name ≡ w.name → IsVisit ground files v → IsVisit ground files w → v ≡ w
    one-visit v w e h k =
        one-read v.name (is_local ground v.name) v.dirs w.dirs v.releases w.releases h
        (subst (λ name. IsVisit ground files (record { name = name; dirs = w.dirs; releases = w.releases })) (sym e) k)
        ∙ ap (λ name. record { name = name; dirs = w.dirs; releases = w.releases }) e

-- ---- paths

abbrev IsReleaseOf : Places → Bytes → Release → Type 0
IsReleaseOf places name release = IsPathOf places name release.path

module _ (env : Env) (places : Places) (files : Files) (name : Bytes) where
  path-of-one : (version : Version) (path : Bytes) (content : Content) (releases : List Release) → IsPathOf places name path → IsOneRelease env name version path content releases
      → AllByRecursion (IsReleaseOf places name) releases
  path-of-one version path content releases p h = subst (AllByRecursion (IsReleaseOf places name)) (sym h.2) (p, tt)

  path-of : (version : Version) (path : Bytes) (content : Content) (releases : List Release) → IsPathOf places name path → IsReleaseIn env name version path content releases
      → AllByRecursion (IsReleaseOf places name) releases
  path-of version path Missing releases p h = subst (AllByRecursion (IsReleaseOf places name)) (sym h) tt
  path-of version path TooLarge releases p h = path-of-one version path TooLarge releases p h
  path-of version path (Holds bytes) releases p h = path-of-one version path (Holds bytes) releases p h

  -- one more directory, before those that are done
  paths-behind : (text : Bytes) (version : Option Version) (more : _) (releases : List Release) → IsVersionOf text version
      → ((rest : List Release) → AreReleases env name more (files_below places files name more) rest → AllByRecursion (IsReleaseOf places name) rest)
      → AreReleases env name (version_dir text version ++ more) (files_below places files name (version_dir text version ++ more)) releases → AllByRecursion (IsReleaseOf places name) releases
  paths-behind text None more releases v behind h = behind releases h
  paths-behind text (Some version) more releases v behind h =
      let file = file_found false files (release_path places name text) in
      let plain = subst HasNoSlash (sym v.1) (version-alone version.parts (version_from version.parts v.0)) in
      subst (AllByRecursion (IsReleaseOf places name)) (sym h.4)
      (each-append (IsReleaseOf places name) h.0 h.1 (path-of version file.path file.content h.0 (text, plain, refl) h.2) (behind h.1 h.3))

  paths-of : (names : List Name) (dirs : _) (releases : List Release) → AreVersions names dirs → AreReleases env name dirs (files_below places files name dirs) releases
      → AllByRecursion (IsReleaseOf places name) releases
  paths-of [] dirs releases v h =
      let none : releases ≡ [] = subst (λ ds. AreReleases env name ds (files_below places files name ds) releases) v h in
      subst (AllByRecursion (IsReleaseOf places name)) (sym none) tt
  paths-of (n ∷ names) dirs releases v h =
      paths-behind n.text v.0 v.1 releases v.2 (λ rest k. paths-of names v.1 rest v.3 k)
      (subst (λ ds. AreReleases env name ds (files_below places files name ds) releases) v.4 h)

module _ (ground : Ground) (files : Files) where
  paths-read : (v : Visit) (local : Bool) → ReadsAs ground files v local → AllByRecursion (IsReleaseOf ground.places v.name) v.releases
  paths-read v true h = subst (AllByRecursion (IsReleaseOf ground.places v.name)) (sym h.no_releases) tt
  paths-read v false h = paths-of ground.env ground.places files v.name (names_below ground.places files v.name) v.dirs v.releases h.versions h.releases

  pub visit-paths : (v : Visit) → IsVisit ground files v → AllByRecursion (λ (release : Release). IsPathOf ground.places v.name release.path) v.releases
  visit-paths v h = paths-read v (is_local ground v.name) h
