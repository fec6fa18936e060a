-- The kept names of a package are those of its file.
use Rattle.std.specs.Prelude.{◌≡◌, ℕ, List, Option, None, Some}
use Rattle.std.specs.Borrow.{Bor}
use Rattle.section_syntax.specs.declared.part.File.{File}
use Rattle.package_declarations.specs.Declarations.{declares, is_executable, is_flag, is_library, own_name}
use Rattle.stanza_imports.specs.Names.{has}
use Rattle.package_declarations.specs.declared.declarations.Declared.{Declared}

-- the value of an optional reference
abbrev pub shown : Option (Bor (List ℕ)) → Option (List ℕ)
shown None = None
shown (Some name) = Some name.now

-- the kept cabal-version and names are those of the file
pub record RepresentsNames (declared : Declared) (file : File) : Type 0 where
  pub spec : declared.spec ≡ file.spec
  pub name : shown declared.name ≡ own_name file.heads
  pub flags : (name : List ℕ) → has declared.flags name ≡ declares is_flag file.sections name
  pub libraries : (name : List ℕ) → has declared.libraries name ≡ declares is_library file.sections name
  pub executables : (name : List ℕ) → has declared.executables name ≡ declares is_executable file.sections name
