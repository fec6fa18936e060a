use Rattle.std.proofs.Common.{◌≡◌, ◌++◌, take, flat_map}
use Rattle.description.specs.Description.{warning}
use Rattle.description.proofs.read.push_warnings.Given as goal

abbrev pub invariant-loop-part : goal.invariant-loop-part
invariant-loop-part l = l.lines ≡ l.initial.lines ++ flat_map warning (take l.part-index l.parts)
