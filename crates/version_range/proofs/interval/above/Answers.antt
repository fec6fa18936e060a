use Rattle.version_range.proofs.Intervals.{ends_of, above_is}
use Rattle.version_range.proofs.interval.above.Goals as goal

pub returns : goal.returns
returns c = ends_of c.from.result _ _ c.from.ensures.ends c.from.ensures.members (λ v n. above_is c.args.x.now c.in_ok-low.low c.in_ok-low.low v c.in_ok-low.ensures)
