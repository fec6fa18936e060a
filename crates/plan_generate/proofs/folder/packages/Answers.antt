use Rattle.std.proofs.Common.{ap, ◌∙◌, sym, ◌++◌, ◌∷◌, [], arith}
use Rattle.plan_generate.proofs.Counts.{counted}
use Rattle.plan_generate.proofs.folder.packages.Goals as goal

pub loop-number-preserved : goal.loop-number-preserved
loop-number-preserved c =
    record {
      some = omega arith;
      all = c.in_ok-push.ensures.ok ∙ ap (λ l. l ++ c.loop-number.number ∷ []) c.loop-number.invariant.all ∙ sym (counted c.loop-number.number c.loop-number.invariant.some);
    }
