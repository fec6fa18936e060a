use Rattle.std.proofs.Common.{◌≡◌, ◌++◌, map}
use Rattle.stanza_imports.specs.Bodies.{body_parts, table, placed_part}
use Rattle.stanza_imports.specs.Walk.{frames_parts, frames_cost}
use Rattle.stanza_imports.proofs.stanzas.Stanzas.replaced.Given as goal

abbrev pub invariant-loop-frame : goal.invariant-loop-frame
invariant-loop-frame l = map placed_part l.placed.items ++ frames_parts l.frames.items ≡ body_parts (table l.self.bodies.items) l.body

abbrev pub decreases-loop-frame : goal.decreases-loop-frame
decreases-loop-frame l = frames_cost l.frames.items
