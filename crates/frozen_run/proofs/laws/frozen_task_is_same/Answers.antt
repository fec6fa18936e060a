use Rattle.std.proofs.Common.{◌≡◌, Ok, Result, subst}
use Rattle.plan_types.specs.declared.refusal.Refusal.{Refusal}
use Rattle.plan_task.specs.declared.task.Task.{Task}
use Rattle.frozen_run.specs.Again.{IsFrozenTask, unlimited}
use Rattle.plan_task.proofs.OneTask.{one_task}
use Rattle.frozen_run.proofs.Tasks.{has-task}
use Rattle.frozen_run.proofs.laws.frozen_task_is_same.Goals as goal

ok-is : (a b : Task) → ◌≡◌ {A = Result Task Refusal} (Ok a) (Ok b) → a ≡ b
ok-is a b e = cc

pub returns : goal.returns
returns c options files now text plan task again is =
    let has = has-task c.text_adds_constraints.ensures.alone c.text_adds_constraints.ensures.behind c.frozen_is_plain.ensures c.packages_stay.ensures.locals c.packages_stay.ensures.index options files now text plan again in
    let same = one_task c.one_folder_project.ensures c.one_folder_index.ensures (unlimited options) now (Ok has.after) (Ok task) has.is is in
    subst (λ (t : Task). IsFrozenTask plan.names plan.trail plan.task t) (ok-is has.after task same) has.frozen_task
