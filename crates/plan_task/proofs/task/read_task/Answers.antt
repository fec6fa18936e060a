use Rattle.std.proofs.Common.{◌≡◌, Ok, Err, ap, refl, subst, sym, ◌∙◌}
use Rattle.std.proofs.lemmas.Result.{IfOk-weaker, err_from_is_err_and}
use Rattle.std.specs.Prelude.{IfOk}
use Rattle.project_config.specs.Project.{IsFolderProject, freeze_bytes}
use Rattle.plan_task.specs.Task.{IsTask, IsTaskOf}
use Rattle.plan_task.specs.declared.task.Task.{Task}
use Rattle.project_config.proofs.LocatedPackages.{passed-on}
use Rattle.plan_task.proofs.Tasks.{answered}
use Rattle.common_laws.specs.Small.{if_some, some_at}
use Rattle.plan_types.specs.Refusal.{Answers}
use Rattle.plan_task.proofs.task.read_task.Goals as goal

pub returns-in_err-found-clause-observed : goal.returns-in_err-found-clause-observed
returns-in_err-found-clause-observed g c = if_some _ _ (λ files t.
    let p = err_from_is_err_and c.from_residual.result c.from_residual.ensures.1 in
    let passed : c.from_residual.result ≡ Err c.in_err-found.field-0.0 = p.1 ∙ ap Err p.2 in
    subst (Answers (IsTask c.args.options files)) (sym passed)
    (passed-on (IsFolderProject c.args.options.env files) (IsTask c.args.options files) (λ refusal is. (Err refusal, is, refl))
    c.in_err-found.field-0.0 (some_at _ _ files t c.in_err-found.ensures.observed)))

pub returns-clause-observed : goal.returns-clause-observed
returns-clause-observed g c = if_some _ _ (λ files t.
    answered (IsTaskOf c.args.options files (Ok c.in_ok-found.found)) (IsTask c.args.options files)
    (λ outcome is. (Ok c.in_ok-found.found, some_at _ _ files t c.in_ok-found.ensures.observed, is))
    c.task_in.result (some_at _ _ files (c.in_ok-found.ensures.folder.same_files ∙ t) c.task_in.ensures.observed))

pub returns-clause-freeze : goal.returns-clause-freeze
returns-clause-freeze g c =
    if_some (λ files. IfOk c.task_in.result (λ (task : Task). task.freeze ≡ freeze_bytes files)) (g.F.Folder.tells c.args.folder.now) (λ files t.
    let kept : c.in_ok-found.found.freeze ≡ freeze_bytes files = some_at _ _ files t c.in_ok-found.ensures.freeze in
    IfOk-weaker c.task_in.result (λ (task : Task). task.freeze ≡ c.in_ok-found.found.freeze) (λ (task : Task). task.freeze ≡ freeze_bytes files) (λ task is. is ∙ kept)
    c.task_in.ensures.freeze)
