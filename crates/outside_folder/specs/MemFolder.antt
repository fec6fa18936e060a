-- A folder in memory.
use Rattle.std.specs.Prelude.{ℕ, List}
use Rattle.outside_folder.specs.MemFile.{told}
use Rattle.outside_folder.specs.declared.mem_folder.MemFolder.{MemFolder}
use Rattle.outside_folder.specs.Files.{Files}

-- the files of a folder in memory
abbrev pub mem_files : MemFolder → Files
mem_files folder = told folder.files

-- the numbers of the calls that are to fail
abbrev pub mem_fail_at : MemFolder → List ℕ
mem_fail_at folder = folder.fail_at

-- the number of calls so far
abbrev pub mem_calls : MemFolder → ℕ
mem_calls folder = folder.calls

-- the number of its calls that have failed
abbrev pub mem_faults : MemFolder → ℕ
mem_faults folder = folder.faults
