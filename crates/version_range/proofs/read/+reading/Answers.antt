use Rattle.version_range.proofs.ChainLoops.{reads_on, reads_all, reads_fault}
use Rattle.version_range.proofs.read.+reading.Goals as goal

pub parts_after-returns-in_err-right-clause-gives : goal.parts_after-returns-in_err-right-clause-gives
parts_after-returns-in_err-right-clause-gives t c = reads_fault c.loop-right.invariant _ _ _ c.from_residual.ensures.1 c.in_err-right.ensures.gives

pub parts_after-loop-right-preserved : goal.parts_after-loop-right-preserved
parts_after-loop-right-preserved t c = reads_on c.loop-right.invariant _ _ _ _ c.in_ok-right.ensures.gives c.in_ok-right.ensures.within c.in-Some.is c.in_ok-left.ensures

pub parts_after-returns-clause-gives : goal.parts_after-returns-clause-gives
parts_after-returns-clause-gives t c = reads_all c.loop-right.invariant _ _ c.in_ok-right.ensures.gives c.in_default.is
