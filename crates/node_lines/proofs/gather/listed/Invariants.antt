-- the identifiers so far, and the later ones
use Rattle.std.proofs.Common.{◌≡◌, ◌++◌}
use Rattle.node_lines.proofs.gather.listed.Given as goal

abbrev pub invariant-loop-id : goal.invariant-loop-id
invariant-loop-id l = l.list ++ l.id-iterator ≡ l.fn.ids.keys
