use Rattle.std.proofs.Common.{◌≡◌, take, flat_map}
use Rattle.description.specs.Faults.{at}
use Rattle.description.specs.NamesBefore.{unknown_of}
use Rattle.description.specs.FaultOrder.{first}
use Rattle.description.proofs.faults.unknown_in.Given as goal

abbrev pub invariant-loop-part : goal.invariant-loop-part
invariant-loop-part l = l.found ≡ first (flat_map (λ part. at part.line (unknown_of l.known part.said)) (take l.part-index l.parts))
