-- the packages so far are those of the files so far
use Rattle.std.proofs.Common.{◌≡◌, List, [], true, map, take, Some}
use Rattle.outside_folder.specs.Calls.{Leaves}
use Rattle.outside_folder.specs.Files.{Files}
use Rattle.index_files.specs.File.{file_found}
use Rattle.index_files.specs.Locals.{FileComes, with_file}
use Rattle.index_files.specs.declared.file.ReadFile.{ReadFile}
use Rattle.index_files.proofs.StepsInTurn.{Through}
use Rattle.index_files.proofs.locals.read_locals.Given as goal

abbrev pub invariant-loop-path : goal.invariant-loop-path
invariant-loop-path g l = record {
  taken : (read : List ReadFile) × Through (FileComes l.env) with_file [] read l.locals.list
      × ((files : Files) → g.F.Folder.tells l.fn.folder ≡ Some files → read ≡ map (file_found true files) (take l.path-index l.paths));
  folder : Leaves g.F.Folder.tells g.F.Folder.faults l.fn.folder l.folder ⊥;
}
