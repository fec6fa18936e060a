-- the lines so far
use Rattle.std.proofs.Common.{◌≡◌, ◌++◌, take}
use Rattle.std.specs.List.{flat_map}
use Rattle.store_id.specs.NodeText.{flag_line}
use Rattle.store_id.proofs.node_text.push_flags.Given as goal

abbrev pub invariant-loop-flag : goal.invariant-loop-flag
invariant-loop-flag l = l.text ≡ l.fn.text ++ flat_map (flag_line l.flags) (take l.flag-index l.declared)
