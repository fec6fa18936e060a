use Rattle.std.proofs.Common.{◌*◌, suc, sym, ap, ◌∙◌, arith}
use Rattle.std.proofs.Math.Nat.{pow-suc}
use Rattle.plan_jobs.proofs.marks.width_for.Goals as goal

pub loop-width-preserved : goal.loop-width-preserved
loop-width-preserved c =
    let e = c.in-Some.ensures.1 in
    let i = c.loop-width.invariant in
    let l = i.1 in
    ((suc i.0.0, pow-suc 2 i.0.0 ∙ ap (λ n. n * 2) i.0.1 ∙ sym e), omega (arith, l, e))
