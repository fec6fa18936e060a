use Rattle.std.proofs.Common.{sym, ◌∙◌}
use Rattle.plan_types.specs.declared.range.Range.TheVariants.{Both, Either}
use Rattle.plan_types.specs.declared.range.Joined.TheVariants as joined
use Rattle.plan_types.proofs.Rebuilt.{put_aside}
use Rattle.plan_types.proofs.range.copy_first.Goals as goal

pub loop-left-preserved-in-Both : goal.loop-left-preserved-in-Both
loop-left-preserved-in-Both c =
    put_aside c.loop-left.waiting.items c.push.new.self.items (joined.Both c.get.result) c.loop-left.left.now c.get-left.result.now _ c.in_ok-push-in-Both.ensures.items
    (c.in-Both.is ∙ (λ i. Both (sym c.get-left.ensures i) (sym c.get.ensures i))) c.loop-left.invariant

pub loop-left-preserved : goal.loop-left-preserved
loop-left-preserved c =
    put_aside c.loop-left.waiting.items c.push-in-Either.new.self.items (joined.Either c.get-in-Either.result) c.loop-left.left.now c.get-left-in-Either.result.now _ c.in_ok-push-in-Either.ensures.items
    (c.in-Either.is ∙ (λ i. Either (sym c.get-left-in-Either.ensures i) (sym c.get-in-Either.ensures i))) c.loop-left.invariant
