use Rattle.std.proofs.Common.{◌≡◌, List, Ok, Some}
use Rattle.outside_folder.specs.Calls.{Leaves}
use Rattle.outside_folder.specs.Files.{Files}
use Rattle.project_file.specs.Read.{IsProject}
use Rattle.project_file.specs.declared.read.ProjectText.{ProjectText}
use Rattle.project_config.specs.Project.{project_files}
use Rattle.project_config.proofs.Reading.{GoesOn}
use Rattle.project_config.proofs.files.read_files.Given as goal

-- the project so far is that of the files so far
abbrev pub invariant-loop-path : goal.invariant-loop-path
invariant-loop-path g l = record {
  taken : (read : List ProjectText) × IsProject l.env read (Ok l.project)
      × ((files : Files) → g.F.Folder.tells l.fn.folder ≡ Some files → GoesOn files project_files read l.implicit l.freeze l.path-iterator.rest.items);
  folder : Leaves g.F.Folder.tells g.F.Folder.faults l.fn.folder l.folder ⊥;
}
