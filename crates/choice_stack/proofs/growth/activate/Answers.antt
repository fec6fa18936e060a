use Rattle.std.proofs.Common.{◌∙◌, drop, sym, ap}
use Rattle.goal_links.proofs.LastItems.{drop-next, taken-next}
use Rattle.choice_stack.proofs.growth.activate.Goals as goal

pub loop-preserved : goal.loop-preserved
loop-preserved c = record {
  active = taken-next c.args.goals.now.said c.args.goals.now.spare c.loop.counter _ _ _ c.activate_next.ensures.active c.loop.invariant.active c.loop.invariant.spare;
  spare = c.activate_next.ensures.spare ∙ ap (drop 1) c.loop.invariant.spare ∙ sym (drop-next c.loop.counter c.args.goals.now.spare);
  opened = c.activate_next.ensures.opened;
  kept = λ n v sides chosen h. c.activate_next.ensures.kept n v sides chosen (c.loop.invariant.kept n v sides chosen h);
}
