use Rattle.std.proofs.Common.{arith, ap, ◌∙◌}
use Rattle.conditionals.specs.declared.path.PathStep.TheVariants as step
use Rattle.conditionals.specs.Steps.{lists_of, join_and, join_or, swap_lists, all_lists}
use Rattle.conditionals.proofs.Finishing.{taken_up, waits_below, asked_and, asked_or}
use Rattle.conditionals.proofs.path.+build.Goals as goal

pub loop-step-preserved-in-Not : goal.loop-step-preserved-in-Not
loop-step-preserved-in-Not t c = record {
  lists = taken_up c.args.env.now c.loop-step.steps.items c.pop.new.self.items c.in-Some.step step.Not c.loop-step.lists c.swapped-lists.result _ c.in-Some.ensures.items c.in-Not.is c.swapped-lists.ensures c.loop-step.invariant.lists;
  smaller = (waits_below c.args.cond.now c.loop-step.steps.items c.pop.new.self.items c.in-Some.step step.Not c.in-Some.ensures.items c.in-Not.is c.loop-step.invariant.smaller).0;
}

pub build-requires : goal.build-requires
build-requires t c =
    let below = (waits_below c.args.cond.now c.loop-step.steps.items c.pop.new.self.items c.in-Some.step (step.And c.in-And.right c.in-And.need) c.in-Some.ensures.items c.in-And.is c.loop-step.invariant.smaller).1 in
    (omega (arith, below, c.decreases), tt)

pub loop-step-preserved-in-And : goal.loop-step-preserved-in-And
loop-step-preserved-in-And t c =
    let env = c.args.env.now in
    let need = c.in-And.need in
    let right = c.in-And.right in
    let part = c.loop-step.lists in
    let new = c.in_ok-lists-in-And.lists in
    let got = c.in_ok-right-in-And.ensures ∙ ap (lists_of env right.now) c.asked.ensures in
    let is = c.in_ok-lists-in-And.ensures ∙ ap (join_and need part) got ∙ asked_and need part (all_lists env right.now) in
    record {
      lists = taken_up env c.loop-step.steps.items c.pop.new.self.items c.in-Some.step (step.And right need) part new _ c.in-Some.ensures.items c.in-And.is is c.loop-step.invariant.lists;
      smaller = (waits_below c.args.cond.now c.loop-step.steps.items c.pop.new.self.items c.in-Some.step (step.And right need) c.in-Some.ensures.items c.in-And.is c.loop-step.invariant.smaller).0;
    }

pub build-requires-in-Or : goal.build-requires-in-Or
build-requires-in-Or t c =
    let below = (waits_below c.args.cond.now c.loop-step.steps.items c.pop.new.self.items c.in-Some.step (step.Or c.in-Or.right c.in-Or.need) c.in-Some.ensures.items c.in-Or.is c.loop-step.invariant.smaller).1 in
    (omega (arith, below, c.decreases), tt)

pub loop-step-preserved : goal.loop-step-preserved
loop-step-preserved t c =
    let env = c.args.env.now in
    let need = c.in-Or.need in
    let right = c.in-Or.right in
    let part = c.loop-step.lists in
    let new = c.swapped-lists-in-Or.result in
    let got = c.in_ok-build-in-Or.ensures ∙ ap (lists_of env right.now) c.asked-in-Or.ensures in
    let joined = c.in_ok-and-in-Or.ensures ∙ (λ i. join_and (c.negated.ensures i) (c.swapped-left.ensures i) (c.swapped-right.ensures i)) in
    let is = c.swapped-lists-in-Or.ensures ∙ ap swap_lists joined ∙ ap (join_or need part) got ∙ asked_or need part (all_lists env right.now) in
    record {
      lists = taken_up env c.loop-step.steps.items c.pop.new.self.items c.in-Some.step (step.Or right need) part new _ c.in-Some.ensures.items c.in-Or.is is c.loop-step.invariant.lists;
      smaller = (waits_below c.args.cond.now c.loop-step.steps.items c.pop.new.self.items c.in-Some.step (step.Or right need) c.in-Some.ensures.items c.in-Or.is c.loop-step.invariant.smaller).0;
    }
