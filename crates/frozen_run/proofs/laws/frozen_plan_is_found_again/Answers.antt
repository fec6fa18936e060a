use Rattle.frozen_run.proofs.Printed.{plan-printed}
use Rattle.plan_task.proofs.OneTask.{one_task}
use Rattle.frozen_run.proofs.Tasks.{has-task}
use Rattle.frozen_run.proofs.laws.frozen_plan_is_found_again.Goals as goal

pub returns : goal.returns
returns c options files now text plan again form output is =
    let has = has-task c.text_adds_constraints.ensures.alone c.text_adds_constraints.ensures.behind c.frozen_is_plain.ensures c.packages_stay.ensures.locals c.packages_stay.ensures.index options files now text plan again in
    plan-printed c.found_again.ensures c.one_finding.ensures c.one_plan.ensures form options files text plan (one_task c.one_folder_project.ensures c.one_folder_index.ensures) now output has is
