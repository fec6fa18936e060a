use Rattle.std.proofs.Common.{◌∷◌, [], ◌++◌, sym, ◌∙◌}
use Rattle.std.proofs.lemmas.List.{map_more}
use Rattle.elaborate.specs.Ranks.{rank_of}
use Rattle.elaborate.proofs.graph.ranked_row.Goals as goal

pub loop-need-preserved : goal.loop-need-preserved
loop-need-preserved c =
    c.in_ok-push.ensures.ok ∙ (λ j. c.loop-need.invariant j ++ c.rank_of.ensures j ∷ [])
    ∙ sym (map_more (rank_of c.args.ranks.now) c.needs_at-need-items.result.now c.loop-need.need-index 0 c.loop-need-test.true)
