use Rattle.std.proofs.Common.{◌<◌, ◌∙◌, sym, ap, subst, length, arith}
use Rattle.choice_stack.specs.Stack.{AllBelow, demands_at}
use Rattle.choice_stack.proofs.Turned.{turned-next, below-next}
use Rattle.choice_stack.proofs.checks.turned_among.Goals as goal

pub push_turned-requires : goal.push_turned-requires
push_turned-requires c = omega (arith, c.loop-place-test.true)

pub loop-place-preserved : goal.loop-place-preserved
loop-place-preserved c =
    let within : c.loop-place.place < length c.args.demands.now = omega (arith, c.loop-place-test.true) in
    let found = c.in_ok-push_turned.ensures in
    record {
      found =
          ap (demands_at c.args.demands.now) found
          ∙ turned-next c.args.trail.now c.args.v c.args.demands.now c.loop-place.found.items c.loop-place.place within c.loop-place.invariant.found;
      within =
          subst (AllBelow (length c.args.demands.now)) (sym found)
          (below-next c.args.trail.now c.args.v c.args.demands.now c.loop-place.found.items c.loop-place.place within c.loop-place.invariant.within);
    }
