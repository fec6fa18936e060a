-- the units so far are those of the records so far, all of which fit
use Rattle.std.proofs.Common.{◌≡◌, List, [], true, map, take, Some}
use Rattle.outside_folder.specs.Calls.{Leaves}
use Rattle.outside_folder.specs.Files.{Files}
use Rattle.index_files.specs.File.{CountsAll, file_found}
use Rattle.index_files.specs.Units.{RecordComes, with_record}
use Rattle.index_files.specs.declared.file.ReadFile.{ReadFile}
use Rattle.index_files.proofs.FileTotals.{Fit}
use Rattle.index_files.proofs.StepsInTurn.{Through}
use Rattle.index_files.proofs.units.read_records.Given as goal

abbrev pub invariant-loop-path : goal.invariant-loop-path
invariant-loop-path g l = record {
  taken : (read : List ReadFile) × Through RecordComes with_record [] read l.units × Fit 0 0 read l.totals.files l.totals.bytes × CountsAll l.totals read
      × ((files : Files) → g.F.Folder.tells l.fn.folder ≡ Some files → read ≡ map (file_found true files) (take l.path-index l.paths));
  folder : Leaves g.F.Folder.tells g.F.Folder.faults l.fn.folder l.folder ⊥;
}
