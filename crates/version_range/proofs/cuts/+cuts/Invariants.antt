use Rattle.std.proofs.Common.{◌+◌, ◌*◌, max}
use Rattle.plan_types.specs.declared.range.Range.{size-Range}
use Rattle.version_range.proofs.Joined.{Takes_over}
use Rattle.version_range.proofs.cuts.+cuts.Given as goal

abbrev pub decreases-Cuts::of : goal.decreases-Cuts::of
decreases-Cuts::of l = 2 * size-Range l.range.now

abbrev pub decreases-chain : goal.decreases-chain
decreases-chain l = 2 * max (size-Range l.left.now) (size-Range l.right.now) + 1

abbrev pub invariant-chain-loop-left : goal.invariant-chain-loop-left
invariant-chain-loop-left l = Takes_over l.joint l.left l.right l.operands l.rest
