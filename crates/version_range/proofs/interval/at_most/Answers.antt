use Rattle.version_range.proofs.Intervals.{ends_of, at_most_is}
use Rattle.version_range.proofs.interval.at_most.Goals as goal

pub returns : goal.returns
returns c = ends_of c.between.result _ _ c.between.ensures.ends c.between.ensures.members (λ v n. at_most_is c.args.x.now c.in_ok-low.low c.in_ok-high.high v n c.in_ok-low.ensures c.in_ok-high.ensures)
