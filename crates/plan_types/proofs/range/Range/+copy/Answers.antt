use Rattle.std.proofs.Common.{arith, ◌∙◌}
use Rattle.plan_types.specs.declared.range.Range.TheVariants.{Both, Either}
use Rattle.plan_types.specs.declared.range.Joined.TheVariants as joined
use Rattle.plan_types.proofs.Rebuilt.{taken_up, both_waits, either_waits}
use Rattle.plan_types.proofs.range.Range.+copy.Goals as goal

pub copy-requires : goal.copy-requires
copy-requires t c =
    let below = both_waits c.loop-joined.waiting.items c.pop.new.self.items c.in-Some.joined c.in-Both.right c.loop-joined.copied _ c.in-Some.ensures.items c.in-Both.is c.loop-joined.invariant in
    (omega (arith, below, c.decreases), tt)

pub loop-joined-preserved-in-Both : goal.loop-joined-preserved-in-Both
loop-joined-preserved-in-Both t c =
    taken_up c.loop-joined.waiting.items c.pop.new.self.items c.in-Some.joined (joined.Both c.in-Both.right) c.loop-joined.copied c.in_ok-copied-in-Both.copied _ c.in-Some.ensures.items c.in-Both.is
    (c.in_ok-copied-in-Both.ensures ∙ (λ i. Both c.loop-joined.copied (c.in_ok-copy-in-Both.ensures i))) c.loop-joined.invariant

pub copy-requires-in-Either : goal.copy-requires-in-Either
copy-requires-in-Either t c =
    let below = either_waits c.loop-joined.waiting.items c.pop.new.self.items c.in-Some.joined c.in-Either.right c.loop-joined.copied _ c.in-Some.ensures.items c.in-Either.is c.loop-joined.invariant in
    (omega (arith, below, c.decreases), tt)

pub loop-joined-preserved : goal.loop-joined-preserved
loop-joined-preserved t c =
    taken_up c.loop-joined.waiting.items c.pop.new.self.items c.in-Some.joined (joined.Either c.in-Either.right) c.loop-joined.copied c.in_ok-copied-in-Either.copied _ c.in-Some.ensures.items c.in-Either.is
    (c.in_ok-copied-in-Either.ensures ∙ (λ i. Either c.loop-joined.copied (c.in_ok-copy-in-Either.ensures i))) c.loop-joined.invariant
