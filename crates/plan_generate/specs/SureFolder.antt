-- A folder in memory on which no call fails.
use Rattle.outside_folder.specs.Files.{Files}
use Rattle.outside_folder.specs.MemFolder.{mem_files}
use Rattle.plan_generate.specs.declared.sure_folder.FaultlessFolder.{FaultlessFolder}

-- the files of such a folder
abbrev pub faultless_files : FaultlessFolder → Files
faultless_files sure = mem_files sure.folder
