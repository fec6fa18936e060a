use Rattle.std.proofs.Common.{length}
use Rattle.version_range.specs.Read.{followed, next_number}
use Rattle.version_range.proofs.ChainLoops.{IsReading}
use Rattle.version_range.proofs.read.numbers_after.Given as goal

-- reading on after the numbers so far gives the whole
abbrev pub invariant-loop-number : goal.invariant-loop-number
invariant-loop-number l = IsReading followed (next_number l.fn.star l.fn.spec) l.fn.parts l.text l.parts l.rest

abbrev pub decreases-loop-number : goal.decreases-loop-number
decreases-loop-number l = length l.rest
