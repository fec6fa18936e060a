use Rattle.std.proofs.Common.{◌<◌, length, slice_index_or, sym, subst, ap, ◌∙◌, take}
use Rattle.plan_components.specs.Chosen.{selection_of}
use Rattle.node_lines.proofs.LineMaking.{lines_count}
use Rattle.node_lines.proofs.lines.lines_along.Goals as goal

pub set-requires : goal.set-requires
set-requires c =
    let count = ap length c.loop-place.invariant ∙ lines_count (selection_of c.args.chosen.now) c.args.reached.now (take c.loop-place.place c.args.order.now) in
    subst (λ n. slice_index_or c.args.order.now c.loop-place.place 0 < n) (sym count) (c.requires.within c.loop-place.place 0 c.loop-place-test.true)
