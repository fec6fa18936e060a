use Rattle.std.proofs.Common.{◌≡◌, arith, ◌∙◌, sym}
use Rattle.plan_types.specs.declared.range.Range.TheVariants.{Both, Either}
use Rattle.version_range.specs.declared.print.RangePlace.TheVariants.{Whole, Term}
use Rattle.version_range.specs.declared.print.Rest.TheVariants.{And, Or}
use Rattle.version_range.specs.Print.{text_in, as_term, as_whole}
use Rattle.version_range.proofs.Printed.{then_left, text_Both, text_Either, smaller_push, below_Both, below_Either}
use Rattle.version_range.proofs.print.push_left.Goals as goal

pub loop-left-preserved-in-Both : goal.loop-left-preserved-in-Both
loop-left-preserved-in-Both c =
    let l = c.get-left.result.now in
    let r = c.get.result.now in
    let s = c.loop-left.left.now in
    let is : s ≡ Both l r = c.in-Both.is ∙ (λ i. Both (sym c.get-left.ensures i) (sym c.get.ensures i)) in
    let small = below_Both s l r is in
    record {
      text = then_left (as_term c.loop-left.at) _ (text_in s c.loop-left.at) (text_in l Term) c.loop-left.text c.open_term.new.text c.loop-left.rests.items c.open_term.new.rests.items c.push.new.self.items (And c.get.result) (text_Both s l r c.loop-left.at is) c.loop-left.invariant.text c.in_ok-open_term-in-Both.ensures.text c.in_ok-push-in-Both.ensures.items;
      inside = omega (arith, small.0, c.loop-left.invariant.inside);
      smaller = smaller_push c.args.range.now c.open_term.new.rests.items c.push.new.self.items (And c.get.result) c.in_ok-push-in-Both.ensures.items (omega (arith, small.1, c.loop-left.invariant.inside)) (c.in_ok-open_term-in-Both.ensures.smaller c.args.range.now c.loop-left.invariant.smaller);
    }

pub loop-left-preserved : goal.loop-left-preserved
loop-left-preserved c =
    let l = c.get-left-in-Either.result.now in
    let r = c.get-in-Either.result.now in
    let s = c.loop-left.left.now in
    let is : s ≡ Either l r = c.in-Either.is ∙ (λ i. Either (sym c.get-left-in-Either.ensures i) (sym c.get-in-Either.ensures i)) in
    let small = below_Either s l r is in
    record {
      text = then_left (as_whole c.loop-left.at) _ (text_in s c.loop-left.at) (text_in l Whole) c.loop-left.text c.open_whole.new.text c.loop-left.rests.items c.open_whole.new.rests.items c.push-in-Either.new.self.items (Or c.get-in-Either.result) (text_Either s l r c.loop-left.at is) c.loop-left.invariant.text c.in_ok-open_whole-in-Either.ensures.text c.in_ok-push-in-Either.ensures.items;
      inside = omega (arith, small.0, c.loop-left.invariant.inside);
      smaller = smaller_push c.args.range.now c.open_whole.new.rests.items c.push-in-Either.new.self.items (Or c.get-in-Either.result) c.in_ok-push-in-Either.ensures.items (omega (arith, small.1, c.loop-left.invariant.inside)) (c.in_ok-open_whole-in-Either.ensures.smaller c.args.range.now c.loop-left.invariant.smaller);
    }
