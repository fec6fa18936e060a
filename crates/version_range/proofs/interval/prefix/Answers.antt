use Rattle.version_range.proofs.Intervals.{ends_of, prefix_is, rises_prefix, version_some}
use Rattle.version_range.proofs.interval.prefix.Goals as goal

pub returns : goal.returns
returns c = ends_of c.between.result _ _ c.between.ensures.ends c.between.ensures.members (λ v n. prefix_is c.args.x.now c.in_ok-low.low c.in_ok-high.high v (version_some c.args.x.now.parts c.requires) c.in_ok-low.ensures c.in_ok-high.ensures)

pub between-requires-clause-order : goal.between-requires-clause-order
between-requires-clause-order c = rises_prefix c.args.x.now c.in_ok-low.low c.in_ok-high.high (version_some c.args.x.now.parts c.requires) c.in_ok-low.ensures c.in_ok-high.ensures
