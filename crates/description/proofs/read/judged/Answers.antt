use Rattle.std.proofs.Common.{subst, sym, ◌∙◌}
use Rattle.std.specs.declared.result.Result.TheVariants.{Ok, Err}
use Rattle.description.specs.Description.{IsFileOutcome}
use Rattle.description.specs.FaultOrder.{is_at}
use Rattle.std.proofs.lemmas.Result.{IfOk-weaker}
use Rattle.plan_types.proofs.OutcomeLemmas.{told-err}
use Rattle.description.proofs.read.judged.Goals as goal

pub returns-in-None-clause-description : goal.returns-in-None-clause-description
returns-in-None-clause-description c =
    IfOk-weaker c.faultless.result _ _ (λ d comes tells stand.
    subst (λ o. IsFileOutcome c.args.file.now c.args.digest o (Ok d)) (sym c.in-None.is ∙ c.in_ok-first.ensures tells stand) (comes tells stand)) c.faultless.ensures.description

pub returns-in-None-clause-fault : goal.returns-in-None-clause-fault
returns-in-None-clause-fault c =
    told-err c.faultless.result _ _ (λ line cause comes tells stand.
    subst (λ o. IsFileOutcome c.args.file.now c.args.digest o (Err (is_at line cause))) (sym c.in-None.is ∙ c.in_ok-first.ensures tells stand) (comes tells stand)) c.faultless.ensures.fault
