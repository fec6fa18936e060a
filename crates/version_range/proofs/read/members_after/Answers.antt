use Rattle.version_range.proofs.ChainLoops.{reads_on, reads_all, reads_fault}
use Rattle.version_range.proofs.read.members_after.Goals as goal

pub returns-in_err-right-clause-gives : goal.returns-in_err-right-clause-gives
returns-in_err-right-clause-gives c = reads_fault c.loop-right.invariant _ _ _ c.from_residual.ensures.1 c.in_err-right.ensures.gives

pub loop-right-preserved : goal.loop-right-preserved
loop-right-preserved c = reads_on c.loop-right.invariant _ _ _ _ c.in_ok-right.ensures.gives c.in_ok-right.ensures.within c.in-Some.is c.in_ok-left.ensures

pub returns-clause-gives : goal.returns-clause-gives
returns-clause-gives c = reads_all c.loop-right.invariant _ _ c.in_ok-right.ensures.gives c.in_default.is
