use Rattle.std.proofs.Common.{◌+◌, sym, subst}
use Rattle.constraint_text.proofs.Dashes.{LastDash, here_dash, other_byte, not_eq}
use Rattle.constraint_text.proofs.relax.last_dash.Goals as goal
use Rattle.constraint_text.proofs.relax.last_dash.Goals.{then-byte-eq45, else-byte-eq45}

pub loop-at-preserved : goal.loop-at-preserved
loop-at-preserved c =
    let text = c.args.text.now in
    let n = c.loop-at.at in
    elim c.if-byte-eq45.branch [
      | then-byte-eq45 w ↦ subst (LastDash text (n + 1)) (sym w.found-is) (here_dash text n c.loop-at-test.true w.if-byte-eq45.true)
      | else-byte-eq45 w ↦ subst (LastDash text (n + 1)) (sym w.found-is) (other_byte text n c.loop-at.found c.loop-at-test.true (not_eq _ 45 w.if-byte-eq45.false) c.loop-at.invariant)
    ]
