use Rattle.std.proofs.Common.{take}
use Rattle.stanza_imports.specs.KnownStanzas.{Stanzas, all_replaced}
use Rattle.stanza_imports.specs.Standing.{Knows, ExpandsTo}
use Rattle.stanza_imports.proofs.stanzas.Stanzas.body.Given as goal

abbrev pub invariant-loop-part : goal.invariant-loop-part
invariant-loop-part l = (known : Stanzas) → Knows known l.self → ExpandsTo l.self.bodies.items l.body (all_replaced known (take l.part-index l.parts))
