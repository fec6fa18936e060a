use Rattle.std.proofs.Common.{ℕ, ◌+◌, ◌*◌, length}
use Rattle.version_range.specs.declared.merge.Connective.{Connective}
use Rattle.version_range.specs.declared.merge.Connective.TheVariants.{Both, Either}
use Rattle.version_range.specs.Cuts.{joined_range}
use Rattle.version_range.specs.Read.{inside, next_part}
use Rattle.version_range.proofs.ChainLoops.{IsReading}
use Rattle.version_range.proofs.read.+reading.Given as goal

-- a chain of terms calls one of factors
abbrev calls : Connective → ℕ
calls Both = 0
calls Either = 4

abbrev pub decreases-inside : goal.decreases-inside
decreases-inside l = 11 * l.room

abbrev pub decreases-factor_at : goal.decreases-factor_at
decreases-factor_at l = 11 * l.room + 1

abbrev pub decreases-part_at : goal.decreases-part_at
decreases-part_at l = 11 * l.room + calls l.joint + 2

abbrev pub decreases-next_part : goal.decreases-next_part
decreases-next_part l = 11 * l.room + calls l.joint + 3

abbrev pub decreases-parts_after : goal.decreases-parts_after
decreases-parts_after l = 11 * l.room + calls l.joint + 4

-- reading on after the parts so far gives the whole
abbrev pub invariant-parts_after-loop-right : goal.invariant-parts_after-loop-right
invariant-parts_after-loop-right l = IsReading (joined_range l.fn.joint) (next_part l.fn.joint (inside l.fn.room l.fn.spec) l.fn.spec) l.fn.first l.text l.left l.rest

abbrev pub decreases-parts_after-loop-right : goal.decreases-parts_after-loop-right
decreases-parts_after-loop-right l = length l.rest

abbrev pub decreases-chain_at : goal.decreases-chain_at
decreases-chain_at l = 11 * l.room + calls l.joint + 5

abbrev pub decreases-range_in : goal.decreases-range_in
decreases-range_in l = 11 * l.room + 10
