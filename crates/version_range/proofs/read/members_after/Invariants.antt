use Rattle.std.proofs.Common.{length}
use Rattle.plan_types.specs.declared.range.Range.TheVariants.{Either}
use Rattle.version_range.specs.Read.{next_member}
use Rattle.version_range.proofs.ChainLoops.{IsReading}
use Rattle.version_range.proofs.read.members_after.Given as goal

-- reading on after the members so far gives the whole
abbrev pub invariant-loop-right : goal.invariant-loop-right
invariant-loop-right l = IsReading Either (next_member l.fn.op l.fn.spec) l.fn.first l.text l.left l.rest

abbrev pub decreases-loop-right : goal.decreases-loop-right
decreases-loop-right l = length l.rest
