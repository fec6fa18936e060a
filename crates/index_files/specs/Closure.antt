-- The reading closure: the names that are reached from the local and extra packages, with their releases.
use Rattle.std.specs.Prelude.{◌≡◌, ℕ, ◌+◌, Bool, true, false, List, [], ◌++◌, map, flat_map, position, slice_get, option_and_then, Option, Some, None}
use Rattle.std.specs.List.{AllByRecursion, IsDistinct, list_all}
use Rattle.plan_types.specs.declared.condition.Env.{Env}
use Rattle.plan_types.specs.declared.dependency.Named.{Named}
use Rattle.flatten.specs.Sound.{asked_packages}
use Rattle.outside_folder.specs.Files.{Bytes, Files}
use Rattle.index_files.specs.File.{count_all, size_all}
use Rattle.index_files.specs.Locals.{local_names}
use Rattle.index_files.specs.Names.{is_listed}
use Rattle.index_files.specs.Releases.{AreReleases, AreVersions, asked_in, files_below, names_below}
use Rattle.index_files.specs.Totals.{is_too_many}
use Rattle.index_files.specs.Units.{needed_by}
use Rattle.index_files.specs.declared.closure.FoundName.{FoundName}
use Rattle.index_files.specs.declared.file.ReadFile.{ReadFile}
use Rattle.index_files.specs.declared.local.Local.{Local}
use Rattle.plan_types.specs.declared.index.Places.{Places}
use Rattle.index_files.specs.declared.release.Release.{Release}
use Rattle.index_files.specs.declared.unit.Unit.{Unit}
use Rattle.index_files.specs.declared.versions.VersionDir.{VersionDir}
use Rattle.plan_types.specs.Bytes.{same_text}

-- all that is known before the index is read
pub record Ground : Type 0 where
  pub env : Env
  pub places : Places
  pub locals : List Local
  pub units : List Unit
  pub extra : List Named

-- whether a name is that of a local package
abbrev pub is_local : Ground → Bytes → Bool
is_local ground name = is_listed (local_names ground.locals) name

-- the roots of the closure: the names of the local packages, and those of the extra packages
abbrev pub root_names : List Local → List Named → List Bytes
root_names locals extra = local_names locals ++ map (λ named. named.name) extra

-- the roots over this ground
abbrev pub roots : Ground → List Bytes
roots ground = root_names ground.locals ground.extra

-- the names on which a local package depends, if there is one
abbrev pub asked_by_local : Option Local → List Bytes
asked_by_local None = []
asked_by_local (Some local) = asked_packages local.source.description

-- the names on which the local package of this name depends
abbrev pub asked_locally : List Local → Bytes → List Bytes
asked_locally locals name = asked_by_local (option_and_then (slice_get locals) (position (same_text name) (local_names locals)))

-- The names that a name mentions: those on which its local package, its records and its releases depend.
abbrev pub mentioned : Ground → FoundName → List Bytes
mentioned ground found = asked_locally ground.locals found.name ++ needed_by ground.units found.name ++ asked_in found.releases

-- the names that a name mentions, with these releases
abbrev pub mentioned_by : Ground → Bytes → List Release → List Bytes
mentioned_by ground name releases = mentioned ground (record { name = name; releases = releases })

-- ---- one name

-- a name with its versions and releases in the index
pub record Visit : Type 0 where
  pub name : Bytes
  pub dirs : List VersionDir
  pub releases : List Release

-- a name with its releases, without its versions
abbrev pub found_of : Visit → FoundName
found_of visit = record { name = visit.name; releases = visit.releases }

-- a visit without versions and releases
pub record ReadsNothing (visit : Visit) : Type 0 where
  pub no_versions : visit.dirs ≡ []
  pub no_releases : visit.releases ≡ []

module _ (ground : Ground) (files : Files) where
  -- the files at the release paths of a name
  abbrev pub visited_files : Visit → List ReadFile
  visited_files visit = files_below ground.places files visit.name visit.dirs

  -- the versions and releases of a name are those of the index
  pub record ReadsAll (visit : Visit) : Type 0 where
    pub versions : AreVersions (names_below ground.places files visit.name) visit.dirs
    pub releases : AreReleases ground.env visit.name visit.dirs (visited_files visit) visit.releases

  -- a visit of a local name is empty
  abbrev pub ReadsAs : Visit → Bool → Type 0
  ReadsAs visit true = ReadsNothing visit
  ReadsAs visit false = ReadsAll visit

  -- the visit of a name, complete
  abbrev pub IsVisit : Visit → Type 0
  IsVisit visit = ReadsAs visit (is_local ground visit.name)

-- ---- the closure

-- a name is reached: a root, or mentioned by a reached name
pub data IsReached (ground : Ground) (files : Files) : Bytes → Type 0 where
  root : (name : Bytes) → is_listed (roots ground) name ≡ true → IsReached ground files name
  by_name : (visit : Visit) (name : Bytes) → IsReached ground files visit.name → IsVisit ground files visit
      → is_listed (mentioned ground (found_of visit)) name ≡ true → IsReached ground files name

-- the names of these visits
abbrev pub names_of : List Visit → List Bytes
names_of visits = map (λ visit. visit.name) visits

-- all names that these visits mention are among the names
abbrev pub AreClosed : Ground → List Bytes → List Visit → Type 0
AreClosed ground names visits = list_all (λ visit. list_all (is_listed names) (mentioned ground (found_of visit))) visits ≡ true

module _ (ground : Ground) (files : Files) where
  -- whether the files of these visits are too many, after so many files and bytes
  abbrev pub are_too_many : ℕ → ℕ → List Visit → Bool
  are_too_many count size visits =
      let all = flat_map (visited_files ground files) visits in
      is_too_many (count + count_all all) (size + size_all all)

  -- The closure: the least set of names that has the roots and is closed under mentioning. Each name has its complete
  -- visit.
  pub record IsClosure (visits : List Visit) : Type 0 where
    pub once : IsDistinct same_text (names_of visits)
    pub begun : list_all (is_listed (names_of visits)) (roots ground) ≡ true
    pub closed : AreClosed ground (names_of visits) visits
    pub reached : AllByRecursion (λ visit. IsReached ground files visit.name) visits
    pub read : AllByRecursion (IsVisit ground files) visits

  -- the versions of a name; a local name has none
  abbrev pub HasVersions : Visit → Bool → Type 0
  HasVersions visit true = visit.dirs ≡ []
  HasVersions visit false = AreVersions (names_below ground.places files visit.name) visit.dirs

  -- a reached name with its versions
  pub record IsPart (visit : Visit) : Type 0 where
    pub reached : IsReached ground files visit.name
    pub versions : HasVersions visit (is_local ground visit.name)

-- Some reached names have too many files, after so many files and bytes.
pub record IsBeyond (ground : Ground) (count size : ℕ) (files : Files) : Type 0 where
  pub parts : List Visit
  pub once : IsDistinct same_text (names_of parts)
  pub inside : AllByRecursion (IsPart ground files) parts
  pub many : are_too_many ground files count size parts ≡ true

-- the whole closure was read, within the limits
pub record IsWhole (ground : Ground) (count size : ℕ) (files : Files) (found : List FoundName) : Type 0 where
  pub visits : List Visit
  pub closure : IsClosure ground files visits
  pub few : are_too_many ground files count size visits ≡ false
  pub found_is : found ≡ map found_of visits

-- the whole closure, or none if it has too many files
abbrev pub Reaches : Ground → ℕ → ℕ → Files → Option (List FoundName) → Type 0
Reaches ground count size files None = IsBeyond ground count size files
Reaches ground count size files (Some found) = IsWhole ground count size files found
