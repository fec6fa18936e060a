-- the text so far, and the later identifiers
use Rattle.std.proofs.Common.{◌≡◌, ◌++◌, flat_map}
use Rattle.plan_nodes.specs.Line.{behind_blank}
use Rattle.plan_nodes.proofs.line.push_words.Given as goal

abbrev pub invariant-loop-id : goal.invariant-loop-id
invariant-loop-id l = l.text ++ flat_map behind_blank l.id-iterator ≡ l.fn.text ++ flat_map behind_blank l.ids.keys
