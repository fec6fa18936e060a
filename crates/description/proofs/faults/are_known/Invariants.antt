use Rattle.std.proofs.Common.{◌≡◌, drop}
use Rattle.std.specs.List.{list_all}
use Rattle.section_syntax.specs.declared.part.File.{File}
use Rattle.package_declarations.specs.Declarations.{is_known}
use Rattle.package_declarations.specs.DeclaredNames.{RepresentsNames}
use Rattle.description.proofs.faults.are_known.Given as goal

abbrev pub invariant-loop-dep : goal.invariant-loop-dep
invariant-loop-dep l = (file : File) → RepresentsNames l.declared file → list_all (is_known file) (drop l.dep-index l.deps) ≡ list_all (is_known file) l.deps
