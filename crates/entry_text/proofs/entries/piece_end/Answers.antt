use Rattle.std.proofs.Common.{sym, ◌∙◌, arith}
use Rattle.entry_text.proofs.CommaCuts.{one_more}
use Rattle.entry_text.proofs.entries.piece_end.Goals as goal

pub loop-at-preserved : goal.loop-at-preserved
loop-at-preserved c =
    let i = c.loop-at.invariant in
    let next = one_more c.args.text.now c.loop-at.at c.loop-at.depth c.depth_behind-depth.result c.loop-at-test.true i.depth i.inside (sym c.splits.ensures ∙ c.if-splits.false) c.depth_behind-depth.ensures.value in
    record { depth = next.0; inside = next.1; within = omega (arith, i.within, c.depth_behind-depth.ensures.within) }
