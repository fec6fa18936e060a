-- the lines so far
use Rattle.std.proofs.Common.{◌≡◌, ◌++◌, take}
use Rattle.std.specs.List.{flat_map}
use Rattle.store_id.specs.NodeText.{line}
use Rattle.store_id.proofs.node_text.push_ids.Given as goal

abbrev pub invariant-loop-id : goal.invariant-loop-id
invariant-loop-id l = l.text ≡ l.fn.text ++ flat_map (line l.word) (take l.id-index l.ids)
