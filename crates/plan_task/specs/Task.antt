-- A task: the index of a folder's packages, and the settings of a plan.
use Rattle.std.specs.Prelude.{◌≡◌, ◌++◌, Option, Result, Ok, Err, unwrap_or}
use Rattle.plan_types.specs.declared.index.Index.{Index}
use Rattle.plan_types.specs.declared.project.Project.{Project}
use Rattle.plan_types.specs.declared.project.Settings.{Settings}
use Rattle.plan_types.specs.declared.refusal.Refusal.{Refusal}
use Rattle.flatten.specs.Sound.{IsSound}
use Rattle.outside_folder.specs.Files.{Bytes, Files}
use Rattle.project_config.specs.Project.{IsFolderProject}
use Rattle.project_config.specs.declared.project.FolderProject.{FolderProject}
use Rattle.index_assembly.specs.Folder.{IsFolderIndex}
use Rattle.package_index.specs.Extra.{AreMarked, AreThere}
use Rattle.command_line.specs.declared.reading.Options.{Options}
use Rattle.plan_task.specs.declared.task.Task.{Task}

-- a project's settings; the limit of the words overrides the project's
abbrev pub settings_of : Options → Project → Settings
settings_of options project = record { env = options.env; project = project; limit = unwrap_or options.limit project.limit }

-- an index with the warnings of project files before those of local files
abbrev pub warned : Project → Index → Index
warned project index = record { packages = index.packages; skipped = index.skipped; warnings = project.warnings ++ index.warnings }

-- the task of a project, its freeze file and its index
abbrev pub task_of : Options → Project → Option Bytes → Index → Task
task_of options project freeze index = record { settings = settings_of options project; index = warned project index; freeze = freeze }

-- the task, or the refusal of the index
abbrev pub task_or_refusal : Options → Project → Option Bytes → Result Index Refusal → Result Task Refusal
task_or_refusal options project freeze (Ok index) = Ok (task_of options project freeze index)
task_or_refusal options project freeze (Err refusal) = Err refusal

-- the task of a folder's project and index, or the first refusal, the project's first
abbrev pub IsTaskOf : Options → Files → Result FolderProject Refusal → Result Task Refusal → Type 0
IsTaskOf options files (Ok found) task =
    (index : Result Index Refusal) × IsFolderIndex options.env options.places found.project.extra found.locals files index
    × (task ≡ task_or_refusal options found.project found.freeze index)
IsTaskOf options files (Err refusal) task = task ≡ Err refusal

-- the task of a folder with these options, or the first refusal
abbrev pub IsTask : Options → Files → Result Task Refusal → Type 0
IsTask options files task =
    (found : Result FolderProject Refusal) × IsFolderProject options.env files found × IsTaskOf options files found task

-- the index is sound, each extra package is in it, and exactly these are marked
pub record IsReady (task : Task) : Type 0 where
  pub sound : IsSound task.settings.env task.index
  pub there : AreThere task.settings.project.extra task.index
  pub marked : AreMarked task.settings.project.extra task.index
