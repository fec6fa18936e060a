-- the nodes so far
use Rattle.std.proofs.Common.{take}
use Rattle.plan_components.specs.Steps.{AppendsNew}
use Rattle.plan_components.proofs.put.put_all.Given as goal

abbrev pub invariant-loop-other : goal.invariant-loop-other
invariant-loop-other l = AppendsNew (take l.other-index l.others) l.fn.nodes.keys l.nodes.keys
