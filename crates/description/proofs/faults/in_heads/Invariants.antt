use Rattle.std.proofs.Common.{◌≡◌, take, flat_map}
use Rattle.description.specs.Faults.{in_head}
use Rattle.description.specs.FaultOrder.{first}
use Rattle.description.proofs.faults.in_heads.Given as goal

abbrev pub invariant-loop-field : goal.invariant-loop-field
invariant-loop-field l = l.found ≡ first (flat_map in_head (take l.field-index l.heads))
