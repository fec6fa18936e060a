use Rattle.std.proofs.Common.{◌≡◌, take, flat_map}
use Rattle.section_syntax.specs.declared.part.File.{File}
use Rattle.description.specs.Faults.{in_section}
use Rattle.description.specs.FaultOrder.{first}
use Rattle.package_declarations.specs.DeclaredNames.{RepresentsNames}
use Rattle.description.proofs.faults.in_sections.Given as goal

abbrev pub invariant-loop-section : goal.invariant-loop-section
invariant-loop-section l = (file : File) → RepresentsNames l.declared file → l.found ≡ first (flat_map (in_section file) (take l.section-index l.sections))
