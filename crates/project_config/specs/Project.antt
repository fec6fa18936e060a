-- The project of a folder.
use Rattle.std.specs.Prelude.{◌≡◌, Bool, true, false, List, [], ◌∷◌, codes, Option, Some, None, Result, Ok, Err}
use Rattle.plan_types.specs.declared.condition.Env.{Env}
use Rattle.plan_types.specs.declared.project.Project.{Project}
use Rattle.plan_types.specs.declared.refusal.Cause.TheVariants.{TooLarge as is_too_large}
use Rattle.plan_types.specs.declared.refusal.Refusal.{Refusal}
use Rattle.outside_folder.specs.Calls.{content_at}
use Rattle.outside_folder.specs.Files.{Bytes, Files, file_at}
use Rattle.outside_folder.specs.declared.calls.Content.{Content}
use Rattle.outside_folder.specs.declared.calls.Content.TheVariants.{Missing, TooLarge, Bytes as Holds}
use Rattle.project_file.specs.Read.{IsProject}
use Rattle.project_file.specs.declared.read.ProjectText.{ProjectText}
use Rattle.project_paths.specs.Local.{local_files, sought}
use Rattle.project_config.specs.declared.files.FilesProject.{FilesProject}
use Rattle.project_config.specs.declared.project.FolderProject.{FolderProject}
use Rattle.plan_types.specs.Bytes.{same_text}

-- the project files, in reading order
abbrev pub project_files : List Bytes
project_files = codes "cabal.project" ∷ codes "cabal.project.freeze" ∷ codes "cabal.project.local" ∷ []

-- ---- reading

-- no text of a missing file; no texts from a file on that is too large
abbrev pub with_text : Bytes → Content → List ProjectText → List ProjectText
with_text path Missing behind = behind
with_text path TooLarge behind = []
with_text path (Holds bytes) behind = record { path = path; bytes = bytes } ∷ behind

-- the texts at these paths, in order, up to the first file that is too large
abbrev pub texts_among : Files → List Bytes → List ProjectText
texts_among files [] = []
texts_among files (path ∷ paths) = with_text path (content_at files path) (texts_among files paths)

-- this path if its file is too large, else that of a later one
abbrev pub large_or : Bytes → Content → Option Bytes → Option Bytes
large_or path Missing behind = behind
large_or path TooLarge behind = Some path
large_or path (Holds bytes) behind = behind

-- the first of these paths at which a file is too large
abbrev pub first_too_large : Files → List Bytes → Option Bytes
first_too_large files [] = None
first_too_large files (path ∷ paths) = large_or path (content_at files path) (first_too_large files paths)

-- whether a file is missing
abbrev pub is_missing : Content → Bool
is_missing Missing = true
is_missing TooLarge = false
is_missing (Holds bytes) = false

-- whether the path is that of the main project file
abbrev pub is_main : Bytes → Bool
is_main path = same_text path (codes "cabal.project")

-- whether there is no `cabal.project`
abbrev pub is_implicit : Files → Bool
is_implicit files = is_missing (content_at files (codes "cabal.project"))

-- the bytes of the freeze file, if there is one
abbrev pub freeze_bytes : Files → Option Bytes
freeze_bytes files = file_at files (codes "cabal.project.freeze")

-- ---- the outcome

-- the refusal of a file that is too large
abbrev pub too_large : Bytes → Refusal
too_large path = record { path = path; line = 0; cause = is_too_large; detail = [] }

-- a refusal of the texts comes before that of a file that is too large
abbrev pub unless_large : Option Bytes → Result Project Refusal → Result Project Refusal
unless_large large (Err refusal) = Err refusal
unless_large None (Ok project) = Ok project
unless_large (Some path) (Ok project) = Err (too_large path)

-- the project of these texts, unless one is refused or a file after them is too large
abbrev pub Say : Env → List ProjectText → Option Bytes → Result Project Refusal → Type 0
Say env texts large said = (read : Result Project Refusal) × IsProject env texts read × (said ≡ unless_large large read)

-- the project of a folder's project files, or the first refusal among them
abbrev pub FilesSay : Env → Files → Result Project Refusal → Type 0
FilesSay env files said = Say env (texts_among files project_files) (first_too_large files project_files) said

-- the same, with the bytes of the freeze file, and whether there is no `cabal.project`
abbrev pub AreSaid : Env → Files → Result FilesProject Refusal → Type 0
AreSaid env files (Ok found) =
    FilesSay env files (Ok found.project) × (found.implicit ≡ is_implicit files) × (found.freeze ≡ freeze_bytes files)
AreSaid env files (Err refusal) = FilesSay env files (Err refusal)

-- the project and its freeze file with its local files, or the refusal of an entry
abbrev pub with_locals : Project → Option Bytes → Result (List Bytes) Refusal → Result FolderProject Refusal
with_locals project freeze (Ok locals) = Ok (record { project = project; freeze = freeze; locals = locals })
with_locals project freeze (Err refusal) = Err refusal

-- the project with its local files; the entries don't count if the project files are refused
abbrev pub located : Files → Result Project Refusal → Result FolderProject Refusal
located files (Err refusal) = Err refusal
located files (Ok project) = with_locals project (freeze_bytes files) (local_files files (sought (is_implicit files) project.entries))

-- the project of a folder with its local files, or the first refusal
abbrev pub IsFolderProject : Env → Files → Result FolderProject Refusal → Type 0
IsFolderProject env files outcome = (said : Result Project Refusal) × FilesSay env files said × (outcome ≡ located files said)
