use Rattle.std.proofs.Common.{Err, refl, subst}
use Rattle.std.proofs.lemmas.Result.{IfOk-weaker}
use Rattle.plan_types.specs.declared.refusal.Halt.{Halt}
use Rattle.plan_task.specs.Task.{IsTask}
use Rattle.plan_task.specs.declared.task.Task.{Task}
use Rattle.plan_command.proofs.Outputs.{planned-means, planned-output, refused-means, refused-output}
use Rattle.common_laws.specs.Small.{some_at}
use Rattle.plan_search.specs.declared.search.Picking.{Picking}
use Rattle.plan_command.specs.Asked.{picking_of}
use Rattle.plan_command.specs.Meaning.{MeansTask}
use Rattle.plan_command.specs.Run.{IsOutputOfTask, of_refusal, of_task}
use Rattle.plan_types.specs.Refusal.{Answers}
use Rattle.plan_command.proofs.plan.output_of_plan.Goals as goal

pub returns-in_ok-planned-in-Ok-clause-headline : goal.returns-in_ok-planned-in-Ok-clause-headline
returns-in_ok-planned-in-Ok-clause-headline g c = λ files t.
    planned-means c.args.options files c.args.form.now (picking_of c.args.options) c.args.options.minimize c.in-Ok.task (some_at _ _ files t c.in-Ok.ensures.observed) c.in-Ok.ensures.ready c.in_ok-planned-in-Ok.field-0
    (subst (λ (p : Picking). MeansTask p c.args.options.minimize c.args.form.now c.in-Ok.task c.in_ok-planned-in-Ok.field-0) c.picking_of-picking.ensures c.in_ok-planned-in-Ok.ensures.headline)

pub returns-in_ok-planned-in-Ok-clause-observed : goal.returns-in_ok-planned-in-Ok-clause-observed
returns-in_ok-planned-in-Ok-clause-observed g c = λ files t.
    planned-output c.args.options files c.args.form.now c.in-Ok.task c.in_ok-planned-in-Ok.field-0 (some_at _ _ files t c.in-Ok.ensures.observed)
    (subst (λ (p : Picking). IsOutputOfTask p c.args.options.minimize c.args.form.now c.in-Ok.task c.in_ok-planned-in-Ok.field-0) c.picking_of-picking.ensures c.in_ok-planned-in-Ok.ensures.output)

pub returns-in_ok-planned-in-Ok-clause-form : goal.returns-in_ok-planned-in-Ok-clause-form
returns-in_ok-planned-in-Ok-clause-form g c =
    of_task c.args.form.now refl c.in-Ok.task c.in-Ok.ensures.ready
    (subst (λ (p : Picking). IsOutputOfTask p c.args.options.minimize c.args.form.now c.in-Ok.task c.in_ok-planned-in-Ok.field-0) c.picking_of-picking.ensures c.in_ok-planned-in-Ok.ensures.output)

pub returns-in-Err-clause-headline : goal.returns-in-Err-clause-headline
returns-in-Err-clause-headline g c = λ files t.
    let told : Answers {A = Task} (IsTask c.args.options files) (Err c.in-Err.halt) = some_at _ _ files t c.in-Err.ensures.observed in
    IfOk-weaker c.halted.result _ _
    (λ output h. refused-means c.args.options files c.args.form.now (picking_of c.args.options) c.args.options.minimize h.0 output (subst (λ (halt : Halt). Answers {A = Task} (IsTask c.args.options files) (Err halt)) h.1 told) h.2)
    c.halted.ensures.refused

pub returns-in-Err-clause-observed : goal.returns-in-Err-clause-observed
returns-in-Err-clause-observed g c = λ files t.
    let told : Answers {A = Task} (IsTask c.args.options files) (Err c.in-Err.halt) = some_at _ _ files t c.in-Err.ensures.observed in
    IfOk-weaker c.halted.result _ _
    (λ output h. refused-output c.args.options files c.args.form.now h.0 output (subst (λ (halt : Halt). Answers {A = Task} (IsTask c.args.options files) (Err halt)) h.1 told) h.2)
    c.halted.ensures.refused

pub returns-in-Err-clause-form : goal.returns-in-Err-clause-form
returns-in-Err-clause-form g c = IfOk-weaker c.halted.result _ _ (λ output h. of_refusal h.0 h.2) c.halted.ensures.refused
