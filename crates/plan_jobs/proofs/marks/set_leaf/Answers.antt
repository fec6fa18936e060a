use Rattle.std.proofs.Common.{◌*◌, ◌+◌, ◌||◌, false, get_or, sym, ap, ◌∙◌}
use Rattle.plan_jobs.proofs.Tree.{up_from, up}
use Rattle.plan_jobs.proofs.marks.set_leaf.Goals as goal
use Rattle.plan_jobs.proofs.marks.set_leaf.Goals.{then-tree-at, else-tree-at}

pub loop-at-init : goal.loop-at-init
loop-at-init c = up_from c.args.width c.args.tree.now c.args.place c.args.mark c.requires.tree c.requires.place

pub loop-at-preserved : goal.loop-at-preserved
loop-at-preserved c =
    let t = c.loop-at.tree in
    let at = c.loop-at.at in
    up c.args.width c.args.tree.now t c.args.place c.args.mark at c.if-tree-at.tree c.requires.tree c.loop-at-test.true c.loop-at.invariant
    (elim c.if-tree-at.branch [
      | then-tree-at w ↦ w.tree-is ∙ w.if-tree-at.true ∙ ap (λ b. b || get_or t (2 * at + 1) false) (sym w.if-tree-at.true)
      | else-tree-at w ↦ w.tree-is ∙ ap (λ b. b || get_or t (2 * at + 1) false) (sym w.if-tree-at.false)
    ])
