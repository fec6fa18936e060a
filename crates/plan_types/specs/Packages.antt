-- Components, instances and packages.
use Rattle.std.specs.Prelude.{ℕ, Bool, true, false, List, [], slice_index_or}
use Rattle.plan_types.specs.declared.dependency.LibName.{LibName}
use Rattle.plan_types.specs.declared.dependency.LibName.TheVariants as lib
use Rattle.plan_types.specs.declared.description.CompKind.{CompKind}
use Rattle.plan_types.specs.declared.description.CompKind.TheVariants.{Library, Executable, Test, Bench, Foreign}
use Rattle.plan_types.specs.declared.description.FlagDecl.{FlagDecl}
use Rattle.plan_types.specs.declared.index.Body.{Body}
use Rattle.plan_types.specs.declared.index.Body.TheVariants.{Source, Installed}
use Rattle.plan_types.specs.declared.index.Entry.{Entry}
use Rattle.plan_types.specs.declared.index.Package.{Package}

-- whether a component is a library
abbrev pub is_library : CompKind → Bool
is_library Library = true
is_library Executable = false
is_library Test = false
is_library Bench = false
is_library Foreign = false

-- whether a library is the main one
abbrev pub is_main : LibName → Bool
is_main lib.Main = true
is_main (lib.Named name) = false

-- a library's name; empty for the main one
abbrev pub library_name : LibName → List ℕ
library_name lib.Main = []
library_name (lib.Named name) = name

-- the flags that an instance declares
abbrev pub declared_by : Body → List FlagDecl
declared_by (Source source) = source.description.flags
declared_by (Installed record_of needs) = []

-- whether an instance is an installed unit
abbrev pub is_installed : Body → Bool
is_installed (Source source) = false
is_installed (Installed record_of needs) = true

-- the default for a place after the last package
abbrev pub no_package : Package
no_package = record { name = []; local = false; extra = false; entries = [] }

-- a package by its place in goal order
abbrev pub package_at : List Package → ℕ → Package
package_at packages p = slice_index_or packages p no_package

-- the instances of a package; none after the last package
abbrev pub entries_of : List Package → ℕ → List Entry
entries_of packages p = (package_at packages p).entries
