use Rattle.std.proofs.Common.{List, ◌++◌, take, map, flat_map}
use Rattle.section_syntax.specs.declared.part.SectionPart.{SectionPart}
use Rattle.stanza_imports.specs.Imports.{under}
use Rattle.stanza_imports.specs.KnownStanzas.{Stanzas, parts_of}
use Rattle.stanza_imports.specs.Standing.{Knows, ExpandsTo}
use Rattle.stanza_imports.proofs.stanzas.Stanzas.import.Given as goal

abbrev pub invariant-loop-name : goal.invariant-loop-name
invariant-loop-name l = (known : Stanzas) (said : List SectionPart) → Knows known l.self → ExpandsTo l.self.bodies.items l.fn.body said →
    ExpandsTo l.self.bodies.items l.body (said ++ flat_map (λ name. map (under l.branches) (parts_of known name)) (take l.name-index l.names))
