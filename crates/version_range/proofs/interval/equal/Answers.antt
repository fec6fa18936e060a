use Rattle.version_range.proofs.Intervals.{ends_of, equal_is, rises_equal}
use Rattle.version_range.proofs.interval.equal.Goals as goal

pub returns : goal.returns
returns c = ends_of c.between.result _ _ c.between.ensures.ends c.between.ensures.members (λ v n. equal_is c.args.x.now c.in_ok-low.low c.in_ok-high.high v c.in_ok-low.ensures c.in_ok-high.ensures)

pub between-requires-clause-order : goal.between-requires-clause-order
between-requires-clause-order c = rises_equal c.args.x.now c.in_ok-low.low c.in_ok-high.high c.in_ok-low.ensures c.in_ok-high.ensures
