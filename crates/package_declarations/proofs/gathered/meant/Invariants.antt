use Rattle.std.proofs.Common.{◌≡◌, ◌++◌, drop, map}
use Rattle.section_syntax.specs.declared.part.File.{File}
use Rattle.package_declarations.specs.Declarations.{meant}
use Rattle.package_declarations.specs.DeclaredNames.{RepresentsNames}
use Rattle.package_declarations.proofs.gathered.meant.Given as goal

abbrev pub invariant-loop-dep : goal.invariant-loop-dep
invariant-loop-dep l = (file : File) → RepresentsNames l.declared file → l.deps ++ map (meant file) (drop l.dep-index l.found) ≡ map (meant file) l.found
