use Rattle.std.proofs.Common.{◌∙◌, drop, sym, ap}
use Rattle.goal_links.proofs.LastItems.{drop-next, taken-next}
use Rattle.goal_links.proofs.mentions.Mentions.take_up_all.Goals as goal

pub loop-preserved : goal.loop-preserved
loop-preserved c = record {
  said = taken-next c.args.self.now.said c.args.self.now.spare c.loop.counter _ _ _ c.take_up.ensures.said c.loop.invariant.said c.loop.invariant.spare;
  spare = c.take_up.ensures.spare ∙ ap (drop 1) c.loop.invariant.spare ∙ sym (drop-next c.loop.counter c.args.self.now.spare);
}
