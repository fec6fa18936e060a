use Rattle.version_range.proofs.Intervals.{ends_of, at_least_is, numbers_of}
use Rattle.version_range.proofs.interval.at_least.Goals as goal

pub returns : goal.returns
returns c = ends_of c.from.result _ _ c.from.ensures.ends c.from.ensures.members (λ v n. at_least_is c.args.x.now c.in_ok-low.low c.in_ok-low.low v c.in_ok-low.ensures)

pub from-requires : goal.from-requires
from-requires c = numbers_of c.args.x.now c.in_ok-low.low c.requires c.in_ok-low.ensures
