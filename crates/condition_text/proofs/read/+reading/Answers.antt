use Rattle.version_range.proofs.ChainLoops.{reads_on, reads_all, reads_fault}
use Rattle.condition_text.proofs.read.+reading.Goals as goal

pub chained-returns-in_err-right-clause-gives : goal.chained-returns-in_err-right-clause-gives
chained-returns-in_err-right-clause-gives t c = reads_fault c.loop-right.invariant _ _ _ c.from_residual.ensures.1 c.in_err-right.ensures.gives

pub chained-loop-right-preserved : goal.chained-loop-right-preserved
chained-loop-right-preserved t c = reads_on c.loop-right.invariant _ _ _ _ c.in_ok-right.ensures.gives c.in_ok-right.ensures.within c.in-Some.is c.in_ok-left.ensures

pub chained-returns-clause-gives : goal.chained-returns-clause-gives
chained-returns-clause-gives t c = reads_all c.loop-right.invariant _ _ c.in_ok-right.ensures.gives c.in_default.is
