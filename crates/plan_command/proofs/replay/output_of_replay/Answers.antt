use Rattle.std.proofs.Common.{List, Err, refl, subst, ◌∙◌}
use Rattle.std.proofs.lemmas.Result.{IfOk-weaker}
use Rattle.common_laws.specs.Small.{some_at}
use Rattle.plan_types.specs.Refusal.{Answers}
use Rattle.plan_types.specs.declared.refusal.Halt.{Halt}
use Rattle.plan_task.specs.Task.{IsTask}
use Rattle.plan_task.specs.declared.task.Task.{Task}
use Rattle.replay_text.specs.declared.event.JobEvent.{JobEvent}
use Rattle.event_file.specs.Events.{AreEventsAt}
use Rattle.plan_command.specs.declared.form.Form.TheVariants.{Replay}
use Rattle.plan_command.specs.Run.{of_refusal, of_task}
use Rattle.plan_command.proofs.Outputs.{built-means, built-output, unplanned-output, unread-output}
use Rattle.plan_command.proofs.replay.output_of_replay.Goals as goal

pub returns-in-Err-clause-observed : goal.returns-in-Err-clause-observed
returns-in-Err-clause-observed g c = λ files t.
    let told : Answers {A = Task} (IsTask c.args.options files) (Err c.in-Err.halt) = some_at _ _ files t c.in-Err.ensures.observed in
    IfOk-weaker c.halted.result _ _
    (λ output h. unplanned-output c.args.options files c.args.events.now c.args.slots h.0 output (subst (λ (halt : Halt). Answers {A = Task} (IsTask c.args.options files) (Err halt)) h.1 told) h.2)
    c.halted.ensures.refused

pub returns-in-Err-clause-form : goal.returns-in-Err-clause-form
returns-in-Err-clause-form g c = IfOk-weaker c.halted.result _ _ (λ output h. of_refusal h.0 h.2) c.halted.ensures.refused

pub returns-in-Ok-read_event_file-clause-meaning : goal.returns-in-Ok-read_event_file-clause-meaning
returns-in-Ok-read_event_file-clause-meaning g c = λ files t.
    built-means c.args.options files c.args.events.now c.args.slots c.in-Ok.task (some_at _ _ files t c.in-Ok.ensures.observed) c.in-Ok.ensures.ready c.in-Ok-read_event_file.events
    c.in_ok-planned-in-Ok-read_event_file.field-0 (some_at _ _ files (c.in-Ok.ensures.folder.same_files ∙ t) c.in-Ok-read_event_file.ensures.observed)
    c.in_ok-planned-in-Ok-read_event_file.ensures.headline

pub returns-in-Ok-read_event_file-clause-observed : goal.returns-in-Ok-read_event_file-clause-observed
returns-in-Ok-read_event_file-clause-observed g c = λ files t.
    built-output c.args.options files c.args.events.now c.args.slots c.in-Ok.task (some_at _ _ files t c.in-Ok.ensures.observed) c.in-Ok-read_event_file.events
    c.in_ok-planned-in-Ok-read_event_file.field-0 (some_at _ _ files (c.in-Ok.ensures.folder.same_files ∙ t) c.in-Ok-read_event_file.ensures.observed)
    c.in_ok-planned-in-Ok-read_event_file.ensures.output

pub returns-in-Ok-read_event_file-clause-form : goal.returns-in-Ok-read_event_file-clause-form
returns-in-Ok-read_event_file-clause-form g c =
    of_task (Replay c.args.slots c.in-Ok-read_event_file.events) (c.in-Ok-read_event_file.events, refl) c.in-Ok.task c.in-Ok.ensures.ready
    c.in_ok-planned-in-Ok-read_event_file.ensures.output

pub returns-clause-observed : goal.returns-clause-observed
returns-clause-observed g c = λ files t.
    let events = c.args.events.now in
    let told : Answers {A = List JobEvent} (AreEventsAt events files) (Err c.in-Err-read_event_file.halt) =
    some_at _ _ files (c.in-Ok.ensures.folder.same_files ∙ t) c.in-Err-read_event_file.ensures.observed in
    IfOk-weaker c.halted-in-Err-read_event_file.result _ _
    (λ output h. unread-output c.args.options files events c.args.slots c.in-Ok.task (some_at _ _ files t c.in-Ok.ensures.observed) h.0 output (subst (λ (halt : Halt). Answers {A = List JobEvent} (AreEventsAt events files) (Err halt)) h.1 told) h.2)
    c.halted-in-Err-read_event_file.ensures.refused

pub returns-clause-form : goal.returns-clause-form
returns-clause-form g c =
    IfOk-weaker c.halted-in-Err-read_event_file.result _ _ (λ output h. of_refusal h.0 h.2) c.halted-in-Err-read_event_file.ensures.refused
