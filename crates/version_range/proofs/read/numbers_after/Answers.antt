use Rattle.version_range.proofs.ChainLoops.{reads_on, reads_all, reads_fault}
use Rattle.version_range.proofs.read.numbers_after.Goals as goal

pub returns-in_err-number-clause-gives : goal.returns-in_err-number-clause-gives
returns-in_err-number-clause-gives c = reads_fault c.loop-number.invariant _ _ _ c.from_residual.ensures.1 c.in_err-number.ensures.gives

pub loop-number-preserved : goal.loop-number-preserved
loop-number-preserved c = reads_on c.loop-number.invariant _ _ _ _ c.in_ok-number.ensures.gives c.in_ok-number.ensures.within c.in-Some.is c.in_ok-push.ensures.ok

pub returns-clause-gives : goal.returns-clause-gives
returns-clause-gives c = reads_all c.loop-number.invariant _ _ c.in_ok-number.ensures.gives c.in_default.is
