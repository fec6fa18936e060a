use Rattle.std.proofs.Common.{sym, ap, ◌∙◌}
use Rattle.std.specs.Ordering.{is_lt}
use Rattle.version_range.specs.Cuts.{inside, are_ends}
use Rattle.version_range.proofs.Intervals.{ends_of, below_is, none_below}
use Rattle.version_range.proofs.interval.below.Goals as goal

pub returns-in_ok-high : goal.returns-in_ok-high
returns-in_ok-high c = ends_of c.between.result _ _ c.between.ensures.ends c.between.ensures.members (λ v n. below_is c.args.x.now c.in_ok-low.low c.in_ok-high.high v n c.in_ok-low.ensures c.in_ok-high.ensures)

pub returns-else-is_lt : goal.returns-else-is_lt
returns-else-is_lt c = (ap are_ends c.new.ensures, λ v n. ap (λ l. inside l v) c.new.ensures ∙ none_below c.args.x.now c.in_ok-low.low c.in_ok-low.low v n c.in_ok-low.ensures (ap is_lt (sym c.compare.ensures) ∙ sym c.if-is_lt.ensures))
