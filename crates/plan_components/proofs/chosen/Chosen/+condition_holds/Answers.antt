use Rattle.std.proofs.Common.{sym, ap, ◌∙◌, arith}
use Rattle.plan_types.specs.declared.condition.Cond.TheVariants.{And}
use Rattle.conditionals.proofs.ConditionLayers.{below_And}
use Rattle.plan_components.proofs.Conditions.{last-decides, others-decide}
use Rattle.plan_components.proofs.chosen.Chosen.+condition_holds.Goals as goal

pub returns-then-not-condition_holds : goal.returns-then-not-condition_holds
returns-then-not-condition_holds t c =
    let env = c.args.self.now.env.now in
    let is = c.in-And.is ∙ ap (And c.in-And.front) (sym c.get.ensures) in
    last-decides env c.args.flags.now c.loop-left.left.now c.in-And.front c.get.result.now is (sym c.condition_holds.ensures ∙ c.if-not-condition_holds.true) ∙ c.loop-left.invariant.0

pub loop-left-preserved : goal.loop-left-preserved
loop-left-preserved t c =
    let env = c.args.self.now.env.now in
    let is = c.in-And.is ∙ (λ i. And (sym c.get-left.ensures i) (sym c.get.ensures i)) in
    let small = below_And c.loop-left.left.now c.get-left.result.now c.get.result.now is in (
      others-decide env c.args.flags.now c.loop-left.left.now c.get-left.result.now c.get.result.now is (sym c.condition_holds.ensures ∙ c.if-not-condition_holds.false) ∙ c.loop-left.invariant.0,
      omega (arith, small, c.loop-left.invariant.1),
    )
