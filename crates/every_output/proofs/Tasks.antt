-- Options and files have a task or a refusal, and the packages of a task are in goal order.
use Rattle.std.proofs.Common.{◌≡◌, List, Result, Ok, Err, refl, sym, subst}
use Rattle.plan_types.specs.declared.condition.Env.{Env}
use Rattle.plan_types.specs.declared.dependency.Named.{Named}
use Rattle.plan_types.specs.declared.index.Index.{Index}
use Rattle.plan_types.specs.declared.index.Places.{Places}
use Rattle.plan_types.specs.declared.refusal.Refusal.{Refusal}
use Rattle.qualified_goals.specs.Names.{AreInGoalOrder}
use Rattle.outside_folder.specs.Files.{Bytes, Files}
use Rattle.project_config.specs.Project.{IsFolderProject}
use Rattle.project_config.specs.declared.project.FolderProject.{FolderProject}
use Rattle.index_assembly.specs.Folder.{IsFolderIndex}
use Rattle.command_line.specs.declared.reading.Options.{Options}
use Rattle.plan_task.specs.Task.{IsTask, IsTaskOf, task_of, task_or_refusal}
use Rattle.plan_task.specs.declared.task.Task.{Task}
use Rattle.every_output.proofs.GoalOrder.{folder_in_goal_order}

abbrev pub SomeProject : Type 0
SomeProject = (env : Env) (files : Files) → (outcome : Result FolderProject Refusal) × IsFolderProject env files outcome

abbrev pub SomeIndex : Type 0
SomeIndex = (env : Env) (places : Places) (extra : List Named) (paths : List Bytes) (files : Files)
    → (outcome : Result Index Refusal) × IsFolderIndex env places extra paths files outcome

module _ (project : SomeProject) (index : SomeIndex) (options : Options) (files : Files) where
  of_project : (found : Result FolderProject Refusal) → (task : Result Task Refusal) × IsTaskOf options files found task
  of_project (Ok found) =
      let made = index options.env options.places found.project.extra found.locals files in
      (task_or_refusal options found.project found.freeze made.0, (made.0, made.1, refl))
  of_project (Err refusal) = (Err refusal, refl)

  pub some_task : (task : Result Task Refusal) × IsTask options files task
  some_task =
      let found = project options.env files in
      let task = of_project found.0 in
      (task.0, (found.0, found.1, task.1))

module _ (options : Options) (files : Files) (task : Task) where
  of_index : (found : FolderProject) (made : Result Index Refusal) → IsFolderIndex options.env options.places found.project.extra found.locals files made
      → Ok task ≡ task_or_refusal options found.project found.freeze made → AreInGoalOrder task.index.packages
  of_index found (Ok index) h e =
      let same : task ≡ task_of options found.project found.freeze index = cc e in
      subst (λ (t : Task). AreInGoalOrder t.index.packages) (sym same)
      (folder_in_goal_order options.env options.places found.project.extra found.locals files index h)
  of_index found (Err refusal) h e = absurd (cc e)

  of_found : (found : Result FolderProject Refusal) → IsTaskOf options files found (Ok task) → AreInGoalOrder task.index.packages
  of_found (Ok found) h = of_index found h.0 h.1 h.2
  of_found (Err refusal) h = absurd (cc h)

  pub task_in_goal_order : IsTask options files (Ok task) → AreInGoalOrder task.index.packages
  task_in_goal_order h = of_found h.0 h.2
