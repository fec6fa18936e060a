use Rattle.std.proofs.Common.{false, Err, refl, ap, subst}
use Rattle.std.proofs.lemmas.Result.{IfOk-weaker}
use Rattle.common_laws.specs.Small.{some_at}
use Rattle.outside_folder.specs.Files.{Bytes}
use Rattle.plan_types.specs.Refusal.{Answers}
use Rattle.plan_types.specs.declared.refusal.Halt.{Halt}
use Rattle.plan_task.specs.Task.{IsTask}
use Rattle.plan_task.specs.declared.task.Task.{Task}
use Rattle.plan_search.specs.declared.search.Picking.TheVariants.{Least}
use Rattle.plan_command.specs.declared.form.Form.TheVariants.{Freeze}
use Rattle.plan_command.specs.Form.{frozen_form, old_freeze_text}
use Rattle.plan_command.specs.Meaning.{MeansTask}
use Rattle.plan_command.specs.Run.{IsOutputOfTask, of_refusal, of_task}
use Rattle.plan_command.proofs.Outputs.{frozen-output, planned-means, unfrozen-output}
use Rattle.plan_command.proofs.freeze.output_of_freeze.Goals as goal

pub returns-in_ok-frozen-in-Ok-clause-meaning : goal.returns-in_ok-frozen-in-Ok-clause-meaning
returns-in_ok-frozen-in-Ok-clause-meaning g c = λ files t.
    let task = c.in-Ok.task in
    let output = c.in_ok-frozen-in-Ok.field-0 in
    let before = ap old_freeze_text (some_at _ _ files t c.in-Ok.ensures.freeze) in
    planned-means c.args.options files (frozen_form files) Least false task (some_at _ _ files t c.in-Ok.ensures.observed) c.in-Ok.ensures.ready output
    (subst (λ (b : Bytes). MeansTask Least false (Freeze b) task output) before c.in_ok-frozen-in-Ok.ensures.headline)

pub returns-in_ok-frozen-in-Ok-clause-observed : goal.returns-in_ok-frozen-in-Ok-clause-observed
returns-in_ok-frozen-in-Ok-clause-observed g c = λ files t.
    let task = c.in-Ok.task in
    let output = c.in_ok-frozen-in-Ok.field-0 in
    let before = ap old_freeze_text (some_at _ _ files t c.in-Ok.ensures.freeze) in
    frozen-output c.args.options files task output (some_at _ _ files t c.in-Ok.ensures.observed)
    (subst (λ (b : Bytes). IsOutputOfTask Least false (Freeze b) task output) before c.in_ok-frozen-in-Ok.ensures.output)

pub returns-in_ok-frozen-in-Ok-clause-form : goal.returns-in_ok-frozen-in-Ok-clause-form
returns-in_ok-frozen-in-Ok-clause-form g c =
    let before = old_freeze_text c.in-Ok.task.freeze in
    of_task (Freeze before) (before, refl) c.in-Ok.task c.in-Ok.ensures.ready c.in_ok-frozen-in-Ok.ensures.output

pub returns-in-Err-clause-observed : goal.returns-in-Err-clause-observed
returns-in-Err-clause-observed g c = λ files t.
    let told : Answers {A = Task} (IsTask c.args.options files) (Err c.in-Err.halt) = some_at _ _ files t c.in-Err.ensures.observed in
    IfOk-weaker c.halted.result _ _
    (λ output h. unfrozen-output c.args.options files h.0 output (subst (λ (halt : Halt). Answers {A = Task} (IsTask c.args.options files) (Err halt)) h.1 told) h.2)
    c.halted.ensures.refused

pub returns-in-Err-clause-form : goal.returns-in-Err-clause-form
returns-in-Err-clause-form g c = IfOk-weaker c.halted.result _ _ (λ output h. of_refusal h.0 h.2) c.halted.ensures.refused
