-- The paths of an index's files.
use Rattle.std.specs.Prelude.{◌++◌, codes}
use Rattle.outside_folder.specs.Files.{Bytes}
use Rattle.plan_types.specs.declared.index.Places.{Places}

-- the path of a name in a directory
abbrev pub under : Bytes → Bytes → Bytes
under dir name = dir ++ codes "/" ++ name

-- the path of a unit record
abbrev pub record_path : Places → Bytes → Bytes
record_path places name = under places.installed name

-- the directory of a package's versions
abbrev pub name_dir : Places → Bytes → Bytes
name_dir places name = under places.index name

-- the path of a release's file
abbrev pub release_path : Places → Bytes → Bytes → Bytes
release_path places name dir = name_dir places name ++ codes "/" ++ dir ++ codes "/" ++ name ++ codes ".cabal"
