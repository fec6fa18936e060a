-- Shared: the project files and the entries give one outcome.
use Rattle.std.proofs.Common.{◌≡◌, Bool, List, [], ◌∷◌, ◌++◌, refl, sym, subst, ap, ◌∙◌}
use Rattle.std.proofs.lemmas.List.{append-nil}
use Rattle.std.specs.Prelude.{Option, Result, Ok, Err}
use Rattle.plan_types.specs.declared.condition.Env.{Env}
use Rattle.plan_types.specs.declared.project.Project.{Project}
use Rattle.plan_types.specs.declared.refusal.Halt.{Halt}
use Rattle.plan_types.specs.declared.refusal.Halt.TheVariants as halt
use Rattle.plan_types.specs.declared.refusal.Refusal.{Refusal}
use Rattle.outside_folder.specs.Calls.{content_at}
use Rattle.outside_folder.specs.Files.{Bytes, Files}
use Rattle.outside_folder.specs.declared.calls.Content.TheVariants.{TooLarge, Bytes as Holds}
use Rattle.project_file.specs.Read.{IsProject, IsWithFile}
use Rattle.project_file.specs.declared.read.ProjectText.{ProjectText}
use Rattle.project_file.proofs.ProjectFiles.{refused-behind}
use Rattle.project_paths.specs.Local.{local_files, sought}
pub use Rattle.project_paths.proofs.EntryAnswers.{passed-on}
use Rattle.project_config.specs.Project.{AreSaid, FilesSay, IsFolderProject, first_too_large, is_implicit, large_or, located, project_files, texts_among, too_large, unless_large, with_locals, with_text}
use Rattle.project_config.specs.declared.files.FilesProject.{FilesProject}
use Rattle.project_config.specs.declared.project.FolderProject.{FolderProject}
use Rattle.project_config.proofs.Reading.{GoesOn, more_read}
use Rattle.plan_types.specs.Refusal.{Answers, Settles}

-- ---- the project files

module _ (env : Env) (files : Files) (read : List ProjectText) (missed : Bool) (freeze : Option Bytes) where
  pub all_said : (project : Project) → GoesOn files project_files read missed freeze [] → IsProject env read (Ok project) → FilesSay env files (Ok project)
  all_said project goes says = (
    Ok project,
    subst (λ ts. IsProject env ts (Ok project)) (sym (goes.texts ∙ append-nil read)) says,
    ap (λ l. unless_large l (Ok project)) (sym goes.large),
  )

  -- a file that is too large
  pub large_said : (project : Project) (path : Bytes) (rest : List Bytes) → TooLarge ≡ content_at files path → GoesOn files project_files read missed freeze (path ∷ rest) → IsProject env read (Ok project) →
      FilesSay env files (Err (too_large path))
  large_said project path rest is goes says = (
    Ok project,
    subst (λ ts. IsProject env ts (Ok project)) (sym (goes.texts ∙ ap (λ c. read ++ with_text path c (texts_among files rest)) (sym is) ∙ append-nil read)) says,
    ap (λ l. unless_large l (Ok project)) (sym (goes.large ∙ ap (λ c. large_or path c (first_too_large files rest)) (sym is))),
  )

  -- a file with a fault, whatever files come later
  pub refused_said : (path bytes : Bytes) (rest : List Bytes) (h : Halt) → Holds bytes ≡ content_at files path → GoesOn files project_files read missed freeze (path ∷ rest) →
      Settles {A = Project × Bytes} (IsWithFile env read (record { path = path; bytes = bytes })) (Err h) → Answers {A = FilesProject} (AreSaid env files) (Err h)
  refused_said path bytes rest halt.NoMemory is goes says = tt
  refused_said path bytes rest halt.Failed is goes says = tt
  refused_said path bytes rest (halt.Refused r) is goes says =
      let text : ProjectText = record { path = path; bytes = bytes } in
      let more = more_read files project_files read missed freeze path rest goes bytes is in (
        Err r,
        subst (λ ts. IsProject env ts (Err r)) (sym more.texts) (refused-behind env (read ++ text ∷ []) (texts_among files rest) r says),
        refl,
      )

-- ---- the entries

module _ (env : Env) (files : Files) where
  abbrev Is : Result FolderProject Halt → Type 0
  Is = Answers (IsFolderProject env files)

  -- the project files are refused
  pub unread : (h : Halt) → Answers {A = FilesProject} (AreSaid env files) (Err h) → Is (Err h)
  unread = passed-on (AreSaid env files) (IsFolderProject env files) (λ refusal says. (Err refusal, says, refl))

  module _ (found : FilesProject) (says : AreSaid env files (Ok found)) where
    from-files : (outcome : Result (List Bytes) Refusal) → outcome ≡ local_files files (sought found.implicit found.project.entries) → with_locals found.project found.freeze outcome ≡ located files (Ok found.project)
    from-files outcome are =
        ap (with_locals found.project found.freeze) are ∙ ap (λ i. with_locals found.project found.freeze (local_files files (sought i found.project.entries))) says.1
        ∙ ap (λ freeze. with_locals found.project freeze (local_files files (sought (is_implicit files) found.project.entries))) says.2

    -- the entries of their project are refused
    pub unlocated : (h : Halt) → Answers {A = List Bytes} (λ outcome. outcome ≡ local_files files (sought found.implicit found.project.entries)) (Err h) → Is (Err h)
    unlocated = passed-on (λ outcome. outcome ≡ local_files files (sought found.implicit found.project.entries)) (IsFolderProject env files)
        (λ refusal are. (Ok found.project, says.0, from-files (Err refusal) are))

    -- the entries match local files
    pub located_in : (locals : List Bytes) → Ok locals ≡ local_files files (sought found.implicit found.project.entries) → IsFolderProject env files (Ok (record { project = found.project; freeze = found.freeze; locals = locals }))
    located_in locals are = (Ok found.project, says.0, from-files (Ok locals) are)
