use Rattle.std.proofs.Common.{◌≡◌, ℕ, List, take}
use Rattle.package_declarations.specs.Declarations.{declares}
use Rattle.stanza_imports.specs.Names.{has}
use Rattle.package_declarations.specs.AskedSections.{is_of}
use Rattle.package_declarations.proofs.declarations.names_of.Given as goal

abbrev pub invariant-loop-section : goal.invariant-loop-section
invariant-loop-section l = (name : List ℕ) → has l.names name ≡ declares (is_of l.asked) (take l.section-index l.sections) name
