-- The steps of reading the closure.
use Rattle.std.specs.Prelude.{◌≡◌, ℕ, ◌+◌, Bool, get_or, ◌||◌, true, false, List, [], ◌∷◌, flat_map, map, Option, Some, None}
use Rattle.std.specs.Option.{option_map}
use Rattle.std.specs.List.{AllByRecursion, IsDistinct, list_all, list_any}
use Rattle.plan_types.specs.declared.condition.Env.{Env}
use Rattle.outside_folder.specs.Files.{Bytes, Files}
use Rattle.index_files.specs.Closure.{Ground, IsReached, IsVisit, Visit, found_of, is_local, mentioned, roots, visited_files}
use Rattle.index_files.specs.File.{Counts, count_all, size_all}
use Rattle.index_files.specs.Names.{is_listed, put_all}
use Rattle.index_files.specs.Releases.{AreReleases, AreVersions, files_below, names_below}
use Rattle.index_files.specs.Totals.{is_too_many}
use Rattle.index_files.specs.declared.closure.FoundName.{FoundName}
use Rattle.index_files.specs.declared.file.ReadFile.{ReadFile}
use Rattle.plan_types.specs.declared.index.Places.{Places}
use Rattle.index_files.specs.declared.release.Release.{Release}
use Rattle.index_files.specs.declared.totals.Totals.{Totals}
use Rattle.index_files.specs.declared.versions.VersionDir.{VersionDir}
use Rattle.plan_types.specs.Bytes.{same_text}

-- ---- one name

-- these files are too many, after these totals
abbrev pub IsBeyondAll : Totals → List ReadFile → Type 0
IsBeyondAll before read = is_too_many (before.files + count_all read) (before.bytes + size_all read) ≡ true

-- the release files of a name are too many, after these totals
pub record ReadsTooMany (places : Places) (files : Files) (name : Bytes) (before : Totals) : Type 0 where
  pub dirs : List VersionDir
  pub versions : AreVersions (names_below places files name) dirs
  pub many : IsBeyondAll before (files_below places files name dirs)

module _ (env : Env) (places : Places) (files : Files) (name : Bytes) (before after : Totals) where
  -- the releases of a name, whose files were counted
  pub record ReadsReleases (releases : List Release) : Type 0 where
    pub dirs : List VersionDir
    pub versions : AreVersions (names_below places files name) dirs
    pub releases_are : AreReleases env name dirs (files_below places files name dirs) releases
    pub counts : Counts before after (files_below places files name dirs)

  -- the releases of a name; none if its files are too many
  abbrev pub Reads : Option (List Release) → Type 0
  Reads None = ReadsTooMany places files name before
  Reads (Some releases) = ReadsReleases releases

-- the same of a name that isn't local
pub record IsOneTooMany (ground : Ground) (files : Files) (name : Bytes) (before : Totals) : Type 0 where
  pub apart : is_local ground name ≡ false
  pub read : ReadsTooMany ground.places files name before

module _ (ground : Ground) (files : Files) (name : Bytes) (before after : Totals) where
  -- a complete visit, whose files were counted
  pub record IsVisited (releases : List Release) : Type 0 where
    pub dirs : List VersionDir
    pub visit : IsVisit ground files (record { name = name; dirs = dirs; releases = releases })
    pub counts : Counts before after (visited_files ground files (record { name = name; dirs = dirs; releases = releases }))

  -- the outcome of visiting a name: its releases; none if its files are too many
  abbrev pub Visits : Option (List Release) → Type 0
  Visits None = IsOneTooMany ground files name before
  Visits (Some releases) = IsVisited releases

-- the same of the name at a place
abbrev pub VisitsAt : Ground → Files → List Bytes → ℕ → Totals → Totals → Option FoundName → Type 0
VisitsAt ground files names place before after read = Visits ground files (get_or names place []) before after (option_map (λ found. found.releases) read)

-- the releases are those of some files with distinct versions
pub record AreJudged (env : Env) (name : Bytes) (releases : List Release) : Type 0 where
  pub dirs : List VersionDir
  pub files : List ReadFile
  pub once : IsDistinct same_text (map (λ dir. dir.version.parts) dirs)
  pub are : AreReleases env name dirs files releases

-- ---- all names

-- names with their releases, as far as they were read
abbrev pub pair_up : List Bytes → List (List Release) → List FoundName
pair_up [] read = []
pair_up (name ∷ names) [] = []
pair_up (name ∷ names) (releases ∷ read) = record { name = name; releases = releases } ∷ pair_up names read

-- a name is a root, or mentioned by a name that was read
abbrev pub is_given : Ground → List FoundName → Bytes → Bool
is_given ground found name = is_listed (roots ground) name || list_any (λ f. is_listed (mentioned ground f) name) found

-- The names are exactly the roots and those that the names read so far mention, each once.
pub record AreKept (ground : Ground) (names : List Bytes) (found : List FoundName) : Type 0 where
  pub once : IsDistinct same_text names
  pub begun : list_all (is_listed names) (roots ground) ≡ true
  pub closed : list_all (λ f. list_all (is_listed names) (mentioned ground f)) found ≡ true
  pub given : AllByRecursion (λ name. is_given ground found name ≡ true) names
  pub judged : AllByRecursion (λ f. AreJudged ground.env f.name f.releases) found

-- All names so far are reached; those that were read have complete visits, whose files were counted.
pub record AreReadSoFar (ground : Ground) (files : Files) (before after : Totals) (names : List Bytes) (found : List FoundName) : Type 0 where
  pub visits : List Visit
  pub found_is : found ≡ map found_of visits
  pub read : AllByRecursion (IsVisit ground files) visits
  pub reached : AllByRecursion (IsReached ground files) names
  pub counts : Counts before after (flat_map (visited_files ground files) visits)

-- a name was read, and the names that it mentions were added
pub record Finds (ground : Ground) (name : Bytes) (old new : List Bytes) (found : FoundName) : Type 0 where
  pub name_is : found.name ≡ name
  pub judged : AreJudged ground.env found.name found.releases
  pub put : new ≡ put_all old (mentioned ground found)

-- the same of the name at a place
abbrev pub FindsAt : Ground → ℕ → List Bytes → List Bytes → FoundName → Type 0
FindsAt ground place old new found = Finds ground (get_or old place []) old new found
