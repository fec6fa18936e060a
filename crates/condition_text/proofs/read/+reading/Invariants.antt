use Rattle.std.proofs.Common.{ℕ, ◌+◌, ◌*◌, length}
use Rattle.version_range.proofs.ChainLoops.{IsReading}
use Rattle.condition_text.specs.declared.read.Joint.{Joint}
use Rattle.condition_text.specs.declared.read.Joint.TheVariants.{And, Or}
use Rattle.condition_text.specs.Reading.{cond_tail, opened_at, joined, next_part}
use Rattle.condition_text.proofs.read.+reading.Given as goal

-- a chain of terms calls one of factors
abbrev calls : Joint → ℕ
calls And = 0
calls Or = 4

abbrev pub decreases-inner_factor : goal.decreases-inner_factor
decreases-inner_factor l = 10 * l.depth.room

abbrev pub decreases-part_at : goal.decreases-part_at
decreases-part_at l = 10 * l.depth.room + calls l.joint + 1

abbrev pub decreases-next_part : goal.decreases-next_part
decreases-next_part l = 10 * l.depth.room + calls l.joint + 2

abbrev pub decreases-chained : goal.decreases-chained
decreases-chained l = 10 * l.depth.room + calls l.joint + 3

-- reading on after the parts so far gives the whole
abbrev pub invariant-chained-loop-right : goal.invariant-chained-loop-right
invariant-chained-loop-right l = IsReading (joined l.fn.joint) (next_part l.fn.joint (opened_at (cond_tail l.fn.depth.spec 64) l.fn.depth.room)) l.fn.first l.text l.left l.rest

abbrev pub decreases-chained-loop-right : goal.decreases-chained-loop-right
decreases-chained-loop-right l = length l.rest

abbrev pub decreases-chain_at : goal.decreases-chain_at
decreases-chain_at l = 10 * l.depth.room + calls l.joint + 4

abbrev pub decreases-factor_at : goal.decreases-factor_at
decreases-factor_at l = 10 * l.depth.room + 9
