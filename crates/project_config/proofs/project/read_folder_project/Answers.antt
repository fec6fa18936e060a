use Rattle.std.proofs.Common.{◌≡◌, Ok, Err, ap, subst, sym, ◌∙◌}
use Rattle.std.proofs.lemmas.Result.{err_from_is_err_and}
use Rattle.project_config.specs.Project.{AreSaid, IsFolderProject}
use Rattle.project_config.proofs.LocatedPackages.{located_in, unlocated, unread}
use Rattle.common_laws.specs.Small.{if_some, some_at}
use Rattle.plan_types.specs.Refusal.{Answers}
use Rattle.project_config.proofs.project.read_folder_project.Goals as goal

pub returns-in_err-found-clause-observed : goal.returns-in_err-found-clause-observed
returns-in_err-found-clause-observed g c = if_some _ _ (λ files t.
    let p = err_from_is_err_and c.from_residual.result c.from_residual.ensures.1 in
    let passed : c.from_residual.result ≡ Err c.in_err-found.field-0.0 = p.1 ∙ ap Err p.2 in
    subst (Answers (IsFolderProject c.args.env.now files)) (sym passed)
    (unread c.args.env.now files c.in_err-found.field-0.0 (some_at _ _ files t c.in_err-found.ensures.observed)))

pub returns-in_err-locals-clause-observed : goal.returns-in_err-locals-clause-observed
returns-in_err-locals-clause-observed g c = if_some _ _ (λ files t.
    let p = err_from_is_err_and c.from_residual-in_err-locals.result c.from_residual-in_err-locals.ensures.1 in
    let passed : c.from_residual-in_err-locals.result ≡ Err c.in_err-locals.field-0.0 = p.1 ∙ ap Err p.2 in
    subst (Answers (IsFolderProject c.args.env.now files)) (sym passed)
    (unlocated c.args.env.now files c.in_ok-found.found (some_at _ _ files t c.in_ok-found.ensures.observed) c.in_err-locals.field-0.0
    (some_at _ _ files (c.in_ok-found.ensures.folder.same_files ∙ t) c.in_err-locals.ensures.observed)))

pub returns-clause-observed : goal.returns-clause-observed
returns-clause-observed g c = if_some _ _ (λ files t.
    located_in c.args.env.now files c.in_ok-found.found (some_at _ _ files t c.in_ok-found.ensures.observed) c.in_ok-locals.locals
    (some_at _ _ files (c.in_ok-found.ensures.folder.same_files ∙ t) c.in_ok-locals.ensures.observed))

pub returns-clause-freeze : goal.returns-clause-freeze
returns-clause-freeze g c = if_some _ _ (λ files t.
    let said : AreSaid c.args.env.now files (Ok c.in_ok-found.found) = some_at _ _ files t c.in_ok-found.ensures.observed in
    said.2)
