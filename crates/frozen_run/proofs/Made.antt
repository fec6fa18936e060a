-- What a task of a folder is made of.
use Rattle.std.proofs.Common.{◌≡◌, List, Option, Some, None, Result, Ok, Err, refl, sym, ap, ◌∙◌, subst}
use Rattle.plan_types.specs.declared.index.Index.{Index}
use Rattle.plan_types.specs.declared.project.Project.{Project}
use Rattle.plan_types.specs.declared.refusal.Refusal.{Refusal}
use Rattle.outside_folder.specs.Files.{Bytes, Files}
use Rattle.project_file.specs.Read.{IsProject}
use Rattle.project_paths.specs.Local.{local_files, sought}
use Rattle.project_config.specs.Project.{first_too_large, freeze_bytes, is_implicit, located, project_files, texts_among, unless_large, with_locals}
use Rattle.project_config.specs.declared.project.FolderProject.{FolderProject}
use Rattle.index_assembly.specs.Folder.{IsFolderIndex}
use Rattle.command_line.specs.declared.reading.Options.{Options}
use Rattle.plan_task.specs.Task.{IsTask, IsTaskOf, task_of, task_or_refusal}
use Rattle.plan_task.specs.declared.task.Task.{Task}

pub record IsMadeOf (options : Options) (files : Files) (task : Task) : Type 0 where
  pub project : Project
  pub locals : List Bytes
  pub index : Index
  pub read : IsProject options.env (texts_among files project_files) (Ok project)
  pub small : first_too_large files project_files ≡ None
  pub found : local_files files (sought (is_implicit files) project.entries) ≡ Ok locals
  pub indexed : IsFolderIndex options.env options.places project.extra locals files (Ok index)
  pub task_is : task ≡ task_of options project (freeze_bytes files) index

ok-task : (a b : Task) → ◌≡◌ {A = Result Task Refusal} (Ok a) (Ok b) → a ≡ b
ok-task a b e = cc

module _ (options : Options) (files : Files) (task : Task) where
  -- the entries by which local files are looked for
  abbrev found_by : Project → Result (List Bytes) Refusal
  found_by project = local_files files (sought (is_implicit files) project.entries)

  module _ (project : Project) (read : IsProject options.env (texts_among files project_files) (Ok project)) (small : first_too_large files project_files ≡ None) where
    from-index : (locals : List Bytes) → found_by project ≡ Ok locals → (index : Result Index Refusal) → IsFolderIndex options.env options.places project.extra locals files index
        → Ok task ≡ task_or_refusal options project (freeze_bytes files) index → IsMadeOf options files task
    from-index locals found (Ok index) indexed e = record {
      project = project;
      locals = locals;
      index = index;
      read = read;
      small = small;
      found = found;
      indexed = indexed;
      task_is = ok-task task (task_of options project (freeze_bytes files) index) e;
    }
    from-index locals found (Err refusal) indexed e = absurd (cc e)

    from-locals : (locals : Result (List Bytes) Refusal) → found_by project ≡ locals → IsTaskOf options files (with_locals project (freeze_bytes files) locals) (Ok task) → IsMadeOf options files task
    from-locals (Ok locals) found h = from-index locals found h.0 h.1 h.2
    from-locals (Err refusal) found h = absurd (cc h)

  from-read : (large : Option Bytes) → first_too_large files project_files ≡ large → (read : Result Project Refusal) → IsProject options.env (texts_among files project_files) read
      → IsTaskOf options files (located files (unless_large large read)) (Ok task) → IsMadeOf options files task
  from-read None small (Ok project) read h = from-locals project read small (found_by project) refl h
  from-read (Some path) small (Ok project) read h = absurd (cc h)
  from-read large small (Err refusal) read h = absurd (cc h)

  pub made-of : IsTask options files (Ok task) → IsMadeOf options files task
  made-of (found, folder, h) =
      from-read (first_too_large files project_files) refl folder.1.0 folder.1.1
      (subst (λ (f : Result FolderProject Refusal). IsTaskOf options files f (Ok task)) (folder.2 ∙ ap (located files) folder.1.2) h)

module _ (options : Options) (files : Files) (project : Project) (locals : List Bytes) (index : Index) where
  pub made-task : IsProject options.env (texts_among files project_files) (Ok project) → first_too_large files project_files ≡ None
      → local_files files (sought (is_implicit files) project.entries) ≡ Ok locals → IsFolderIndex options.env options.places project.extra locals files (Ok index)
      → IsTask options files (Ok (task_of options project (freeze_bytes files) index))
  made-task read small found indexed = (
    Ok (record { project = project; freeze = freeze_bytes files; locals = locals }),
    (Ok project, (Ok project, read, sym (ap (λ large. unless_large large (Ok project)) small)), sym (ap (with_locals project (freeze_bytes files)) found)),
    (Ok index, indexed, refl),
  )
