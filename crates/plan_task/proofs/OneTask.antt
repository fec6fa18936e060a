-- Shared: a folder whose project and index are unique has one task.
use Rattle.std.proofs.Common.{◌≡◌, List, Result, Ok, Err, sym, ap, subst, ◌∙◌}
use Rattle.plan_types.specs.declared.condition.Env.{Env}
use Rattle.plan_types.specs.declared.dependency.Named.{Named}
use Rattle.plan_types.specs.declared.index.Index.{Index}
use Rattle.plan_types.specs.declared.index.Places.{Places}
use Rattle.plan_types.specs.declared.refusal.Refusal.{Refusal}
use Rattle.outside_folder.specs.Files.{Bytes, Files}
use Rattle.project_config.specs.Project.{IsFolderProject}
use Rattle.project_config.specs.declared.project.FolderProject.{FolderProject}
use Rattle.index_assembly.specs.Folder.{IsFolderIndex}
use Rattle.command_line.specs.declared.reading.Options.{Options}
use Rattle.plan_task.specs.Task.{IsTask, IsTaskOf, task_or_refusal}
use Rattle.plan_task.specs.declared.task.Task.{Task}

abbrev pub OneProject : Type 0
OneProject = (env : Env) (files : Files) (a b : Result FolderProject Refusal) → IsFolderProject env files a → IsFolderProject env files b → a ≡ b

abbrev pub OneIndex : Type 0
OneIndex = (env : Env) (places : Places) (extra : List Named) (paths : List Bytes) (files : Files) (a b : Result Index Refusal)
    → IsFolderIndex env places extra paths files a → IsFolderIndex env places extra paths files b → a ≡ b

module _ (project : OneProject) (one : OneIndex) (options : Options) (files : Files) where
  one_task_of : (found : Result FolderProject Refusal) (a b : Result Task Refusal) → IsTaskOf options files found a → IsTaskOf options files found b → a ≡ b
  one_task_of (Ok found) a b h k =
      h.2 ∙ ap (task_or_refusal options found.project found.freeze) (one options.env options.places found.project.extra found.locals files h.0 k.0 h.1 k.1) ∙ sym k.2
  one_task_of (Err refusal) a b h k = h ∙ sym k

  pub one_task : (a b : Result Task Refusal) → IsTask options files a → IsTask options files b → a ≡ b
  one_task a b h k =
      let same = project options.env files h.0 k.0 h.1 k.1 in
      one_task_of k.0 a b (subst (λ (f : Result FolderProject Refusal). IsTaskOf options files f a) same h.2) k.2
