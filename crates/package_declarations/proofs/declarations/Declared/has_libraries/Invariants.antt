use Rattle.std.proofs.Common.{◌≡◌, drop}
use Rattle.std.specs.List.{list_all}
use Rattle.section_syntax.specs.declared.part.File.{File}
use Rattle.package_declarations.specs.Declarations.{declares, is_library}
use Rattle.plan_types.specs.Packages.{library_name}
use Rattle.package_declarations.specs.DeclaredNames.{RepresentsNames}
use Rattle.package_declarations.proofs.declarations.Declared.has_libraries.Given as goal

abbrev pub invariant-loop-lib : goal.invariant-loop-lib
invariant-loop-lib l = (file : File) → RepresentsNames l.self file →
    list_all (λ l. declares is_library file.sections (library_name l)) (drop l.lib-index l.libs) ≡ list_all (λ l. declares is_library file.sections (library_name l)) l.libs
