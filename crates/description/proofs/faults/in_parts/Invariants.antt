use Rattle.std.proofs.Common.{◌≡◌, take, flat_map}
use Rattle.section_syntax.specs.declared.part.File.{File}
use Rattle.description.specs.Faults.{in_part}
use Rattle.description.specs.FaultOrder.{first}
use Rattle.package_declarations.specs.DeclaredNames.{RepresentsNames}
use Rattle.description.proofs.faults.in_parts.Given as goal

abbrev pub invariant-loop-part : goal.invariant-loop-part
invariant-loop-part l = (file : File) → RepresentsNames l.declared file → l.found ≡ first (flat_map (in_part file) (take l.part-index l.parts))
