-- Kinds of sections by which names are looked up.
use Rattle.std.specs.Prelude.{Bool}
use Rattle.package_declarations.specs.Declarations.{is_executable, is_flag, is_library}
use Rattle.section_syntax.specs.declared.part.SectionKind.{SectionKind}
use Rattle.package_declarations.specs.declared.declarations.Declares.{Declares}
use Rattle.package_declarations.specs.declared.declarations.Declares.TheVariants.{Flag, Library, Executable}

-- whether a section is of the kind looked up
abbrev pub is_of : Declares → SectionKind → Bool
is_of Flag = is_flag
is_of Library = is_library
is_of Executable = is_executable
