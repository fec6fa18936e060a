use Rattle.std.proofs.Common.{◌≡◌, arith, sym, ◌∙◌}
use Rattle.plan_types.specs.declared.condition.Cond.TheVariants.{And, Or}
use Rattle.conditionals.proofs.ConditionLayers.{below_And, below_Or}
use Rattle.conditionals.proofs.PathNumbers.{numbers_And, numbers_Or, weighed_join, weighed_or}
use Rattle.conditionals.proofs.count.+numbers_of.Goals as goal

pub loop-left-preserved-in-And : goal.loop-left-preserved-in-And
loop-left-preserved-in-And t c =
    let env = c.args.env.now in
    let l = c.get-left-in-And.result.now in
    let r = c.get.result.now in
    let s = c.loop-left.left.now in
    let is : s ≡ And l r = c.in-And.is ∙ (λ i. And (sym c.get-left-in-And.ensures i) (sym c.get.ensures i)) in
    let joins = numbers_And env s l r is in
    let small = below_And s l r is in
    let right = c.numbers_of-right in
    record {
      yes = weighed_join c.loop-left.for_yes.yes c.loop-left.for_yes.no _ _ _ _ _ _ _ c.weighed.result right.result.yes right.result.no joins c.weighed.ensures right.ensures.yes right.ensures.no c.loop-left.invariant.yes;
      no = weighed_join c.loop-left.for_no.yes c.loop-left.for_no.no _ _ _ _ _ _ _ c.weighed-in-And.result right.result.yes right.result.no joins c.weighed-in-And.ensures right.ensures.yes right.ensures.no c.loop-left.invariant.no;
      inside = omega (arith, small, c.loop-left.invariant.inside);
    }

pub loop-left-preserved : goal.loop-left-preserved
loop-left-preserved t c =
    let env = c.args.env.now in
    let l = c.get-left-in-Or.result.now in
    let r = c.get-in-Or.result.now in
    let s = c.loop-left.left.now in
    let is : s ≡ Or l r = c.in-Or.is ∙ (λ i. Or (sym c.get-left-in-Or.ensures i) (sym c.get-in-Or.ensures i)) in
    let joins = numbers_Or env s l r is in
    let small = below_Or s l r is in
    let right = c.numbers_of-right-in-Or in
    record {
      yes = weighed_or c.loop-left.for_yes.yes c.loop-left.for_yes.no _ _ _ _ _ _ _ c.weighed-in-Or.result right.result.yes right.result.no joins c.weighed-in-Or.ensures right.ensures.yes right.ensures.no c.loop-left.invariant.yes;
      no = weighed_or c.loop-left.for_no.yes c.loop-left.for_no.no _ _ _ _ _ _ _ c.weighed-in-Or-2.result right.result.yes right.result.no joins c.weighed-in-Or-2.ensures right.ensures.yes right.ensures.no c.loop-left.invariant.no;
      inside = omega (arith, small, c.loop-left.invariant.inside);
    }
