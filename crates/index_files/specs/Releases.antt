-- The releases of a package in the index.
use Rattle.std.specs.Prelude.{◌≡◌, Bool, ◌&&◌, if◌then◌else◌, List, [], ◌∷◌, ◌++◌, true, false, map, flat_map, unwrap_or, Option, Some, None}
use Rattle.std.specs.declared.result.Result.{Result}
use Rattle.std.specs.declared.result.Result.TheVariants.{Ok, Err}
use Rattle.plan_types.specs.declared.condition.Env.{Env}
use Rattle.plan_types.specs.declared.description.Description.{Description}
use Rattle.plan_types.specs.declared.refusal.Cause.TheVariants.{WrongPlace}
use Rattle.plan_types.specs.declared.version.Version.{Version}
use Rattle.description.specs.declared.fault_order.At.{At}
use Rattle.flatten.specs.Demands.{ExternalDep}
use Rattle.flatten.specs.Sound.{asked_packages}
use Rattle.outside_folder.specs.declared.calls.Content.{Content}
use Rattle.outside_folder.specs.declared.calls.Content.TheVariants.{Missing, TooLarge, Bytes as Holds}
use Rattle.outside_folder.specs.declared.folder.Name.{Name}
use Rattle.outside_folder.specs.Files.{Bytes, Files, listing}
use Rattle.plan_types.specs.declared.index.Source.{Source}
use Rattle.index_files.specs.File.{file_found}
use Rattle.index_files.specs.Places.{name_dir, release_path}
use Rattle.index_files.specs.Sources.{Comes}
use Rattle.index_files.specs.declared.file.ReadFile.{ReadFile}
use Rattle.plan_types.specs.declared.index.Places.{Places}
use Rattle.index_files.specs.declared.release.Judged.{Judged}
use Rattle.index_files.specs.declared.release.Judged.TheVariants.{Readable, Faulty}
use Rattle.index_files.specs.declared.release.Release.{Release}
use Rattle.index_files.specs.declared.versions.VersionDir.{VersionDir}
use Rattle.plan_types.specs.Bytes.{same_text}
use Rattle.version_range.specs.Version.{IsVersionOf}

-- ---- versions

-- a version with the name of its directory, if that is a version
abbrev pub version_dir : Bytes → Option Version → List VersionDir
version_dir text None = []
version_dir text (Some version) = record { text = text; version = version } ∷ []

-- the versions among the names of directories
abbrev pub AreVersions : List Name → List VersionDir → Type 0
AreVersions [] dirs = dirs ≡ []
AreVersions (name ∷ names) dirs =
    (version : Option Version) × (more : List VersionDir) × IsVersionOf name.text version × AreVersions names more
    × (dirs ≡ version_dir name.text version ++ more)

-- the paths of the release files of these versions
abbrev pub release_paths : Places → Bytes → List VersionDir → List Bytes
release_paths places name dirs = map (λ dir. release_path places name dir.text) dirs

-- the names in the directory of a package
abbrev pub names_below : Places → Files → Bytes → List Name
names_below places files name = unwrap_or (listing files (name_dir places name)) []

-- the files at these paths
abbrev pub files_below : Places → Files → Bytes → List VersionDir → List ReadFile
files_below places files name dirs = map (file_found false files) (release_paths places name dirs)

-- ---- releases

-- whether a description has this name and version
abbrev pub is_in_place : Bytes → Version → Description → Bool
is_in_place name version d = same_text d.name name && same_text d.version.parts version.parts

-- a release must have the name and version of its path, else it is faulty
abbrev pub judged_as : Bytes → Version → Result Source At → Judged
judged_as name version (Ok source) = if is_in_place name version source.description then Readable source else Faulty 0 WrongPlace
judged_as name version (Err at) = Faulty at.line at.cause

-- the judgement of a release file
abbrev pub IsJudged : Env → Bytes → Version → Content → Judged → Type 0
IsJudged env name version content judged = (outcome : Result Source At) × Comes env content outcome × (judged ≡ judged_as name version outcome)

-- whether a file is missing
abbrev pub is_missing : Content → Bool
is_missing content = elim content [ Missing ↦ true | TooLarge ↦ false | Holds bytes ↦ false ]

-- the one release of a file, with its judgement
abbrev pub IsOneRelease : Env → Bytes → Version → Bytes → Content → List Release → Type 0
IsOneRelease env name version path content releases =
    (judged : Judged) × IsJudged env name version content judged × (releases ≡ record { path = path; judged = judged } ∷ [])

-- the same; no release if the file is missing
abbrev pub IsReleaseIn : Env → Bytes → Version → Bytes → Content → List Release → Type 0
IsReleaseIn env name version path Missing releases = releases ≡ []
IsReleaseIn env name version path TooLarge releases = IsOneRelease env name version path TooLarge releases
IsReleaseIn env name version path (Holds bytes) releases = IsOneRelease env name version path (Holds bytes) releases

-- the release of a file, if it isn't missing
abbrev pub IsRelease : Env → Bytes → VersionDir → ReadFile → List Release → Type 0
IsRelease env name dir file releases = IsReleaseIn env name dir.version file.path file.content releases

-- the releases of these versions and files
abbrev pub AreReleases : Env → Bytes → List VersionDir → List ReadFile → List Release → Type 0
AreReleases env name [] files releases = releases ≡ []
AreReleases env name (dir ∷ dirs) [] releases = releases ≡ []
AreReleases env name (dir ∷ dirs) (file ∷ files) releases =
    (here : List Release) × (more : List Release) × IsRelease env name dir file here × AreReleases env name dirs files more
    × (releases ≡ here ++ more)

-- the names on which a release depends; none for a faulty one
abbrev pub asked_by : Judged → List Bytes
asked_by (Readable source) = asked_packages source.description
asked_by (Faulty line cause) = []

-- the names on which these releases depend
abbrev pub asked_in : List Release → List Bytes
asked_in releases = flat_map (λ release. asked_by release.judged) releases

-- the name of the package that a dependency is on
abbrev pub outward_name : ExternalDep → Bytes
outward_name at = at.guarded.dep.«package»

-- ---- steps

-- a version was appended, if the directory's name is one
abbrev pub AddsVersion : Bytes → List VersionDir → List VersionDir → Type 0
AddsVersion text old new = (version : Option Version) × IsVersionOf text version × (new ≡ old ++ version_dir text version)

-- the release of a file was appended, if it isn't missing
abbrev pub AddsRelease : Env → Bytes → VersionDir → ReadFile → List Release → List Release → Type 0
AddsRelease env name dir file old new = (here : List Release) × IsRelease env name dir file here × (new ≡ old ++ here)
