use Rattle.std.proofs.Common.{length, ap, arith}
use Rattle.elaborate.proofs.Telling.{placed_step}
use Rattle.elaborate.proofs.told.placed_lines.Goals as goal

pub loop-line-preserved : goal.loop-line-preserved
loop-line-preserved c =
    let steps = c.in-Some.ensures.steps.0 in
    let count = c.loop-line.invariant.count in
    let longer = ap length steps in
    record {
      count = omega (arith, longer, count);
      so_far = placed_step c.args.nodes.now _ _ c.in-Some.line c.loop-line.place c.loop-line.all.items c.push_placed.new.all.items _ count steps c.in_ok-push_placed.ensures c.loop-line.invariant.so_far;
    }
