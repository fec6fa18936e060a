use Rattle.version_range.proofs.Intervals.{ends_of, any_is}
use Rattle.version_range.proofs.interval.any.Goals as goal

pub returns : goal.returns
returns c = ends_of c.from.result _ _ c.from.ensures.ends c.from.ensures.members (λ v n. any_is c.in_ok-low.low v c.in_ok-low.ensures n)
