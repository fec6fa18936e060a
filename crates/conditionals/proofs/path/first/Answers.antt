use Rattle.std.proofs.Common.{◌≡◌, arith, sym, ap, ◌∙◌}
use Rattle.plan_types.specs.declared.condition.Cond.TheVariants.{Not, And, Or}
use Rattle.conditionals.specs.declared.path.PathStep.TheVariants as step
use Rattle.conditionals.specs.Steps.{lists_of, step_up}
use Rattle.conditionals.proofs.ConditionLayers.{below_Not, below_And, below_Or}
use Rattle.conditionals.proofs.Finishing.{put_aside, smaller_push, leads_not, leads_and, leads_or}
use Rattle.conditionals.proofs.path.first.Goals as goal

pub loop-left-preserved-in-Not : goal.loop-left-preserved-in-Not
loop-left-preserved-in-Not c =
    let env = c.args.env.now in
    let l = c.get-left.result.now in
    let s = c.loop-left.left.now in
    let is : s ≡ Not l = c.in-Not.is ∙ ap Not (sym c.get-left.ensures) in
    let small = below_Not s l is in
    record {
      lists = put_aside env c.loop-left.steps.items c.push.new.self.items step.Not _ _ _ c.in_ok-push-in-Not.ensures.items
          (leads_not env s l c.loop-left.need is ∙ ap (λ n. step_up env step.Not (lists_of env l n)) (sym c.negated-need.ensures)) c.loop-left.invariant.lists;
      inside = omega (arith, small, c.loop-left.invariant.inside);
      smaller = smaller_push c.args.cond.now c.loop-left.steps.items c.push.new.self.items step.Not c.in_ok-push-in-Not.ensures.items tt c.loop-left.invariant.smaller;
    }

pub loop-left-preserved-in-And : goal.loop-left-preserved-in-And
loop-left-preserved-in-And c =
    let env = c.args.env.now in
    let l = c.get-left-in-And.result.now in
    let r = c.get.result in
    let s = c.loop-left.left.now in
    let is : s ≡ And l r.now = c.in-And.is ∙ (λ i. And (sym c.get-left-in-And.ensures i) (sym c.get.ensures i)) in
    let small = below_And s l r.now is in
    let same : c.get-in-And.result.now ≡ r.now = c.get-in-And.ensures ∙ sym c.get.ensures in
    let right = c.numbers_of in
    record {
      lists = put_aside env c.loop-left.steps.items c.push-in-And.new.self.items (step.And r c.loop-left.need) _ _ _ c.in_ok-push-in-And.ensures.items
          (leads_and env s l r c.loop-left.need right.result.yes right.result.no is (rw same at right.ensures.yes, rw same at right.ensures.no) ∙ ap (λ n. step_up env (step.And r c.loop-left.need) (lists_of env l n)) (sym c.left_of_and-need.ensures)) c.loop-left.invariant.lists;
      inside = omega (arith, small, c.loop-left.invariant.inside);
      smaller = smaller_push c.args.cond.now c.loop-left.steps.items c.push-in-And.new.self.items (step.And r c.loop-left.need) c.in_ok-push-in-And.ensures.items (omega (arith, small, c.loop-left.invariant.inside)) c.loop-left.invariant.smaller;
    }

pub loop-left-preserved : goal.loop-left-preserved
loop-left-preserved c =
    let env = c.args.env.now in
    let l = c.get-left-in-Or.result.now in
    let r = c.get-in-Or.result in
    let s = c.loop-left.left.now in
    let is : s ≡ Or l r.now = c.in-Or.is ∙ (λ i. Or (sym c.get-left-in-Or.ensures i) (sym c.get-in-Or.ensures i)) in
    let small = below_Or s l r.now is in
    let same : c.get-in-Or-2.result.now ≡ r.now = c.get-in-Or-2.ensures ∙ sym c.get-in-Or.ensures in
    let right = c.numbers_of-in-Or in
    record {
      lists = put_aside env c.loop-left.steps.items c.push-in-Or.new.self.items (step.Or r c.loop-left.need) _ _ _ c.in_ok-push-in-Or.ensures.items
          (leads_or env s l r c.loop-left.need right.result.yes right.result.no is (rw same at right.ensures.yes, rw same at right.ensures.no) ∙ ap (λ n. step_up env (step.Or r c.loop-left.need) (lists_of env l n)) (sym c.left_of_or-need.ensures)) c.loop-left.invariant.lists;
      inside = omega (arith, small, c.loop-left.invariant.inside);
      smaller = smaller_push c.args.cond.now c.loop-left.steps.items c.push-in-Or.new.self.items (step.Or r c.loop-left.need) c.in_ok-push-in-Or.ensures.items (omega (arith, small, c.loop-left.invariant.inside)) c.loop-left.invariant.smaller;
    }
