use Rattle.std.proofs.Common.{◌≡◌, Err, ◌∙◌, List, ap, subst, sym}
use Rattle.std.proofs.lemmas.Result.{err_from_is_err_and}
use Rattle.outside_folder.specs.Files.{Bytes}
use Rattle.project_paths.specs.Local.{all_files, finished, implied, local_files, sought}
use Rattle.project_paths.proofs.EntryAnswers.{first-refused, all-found}
use Rattle.common_laws.specs.Small.{if_some, some_at}
use Rattle.plan_types.specs.Refusal.{Answers, Settles}
use Rattle.project_paths.proofs.find.find_packages.Goals as goal

pub returns-in_err-found-clause-observed : goal.returns-in_err-found-clause-observed
returns-in_err-found-clause-observed g c = if_some _ _ (λ files t.
    let p = err_from_is_err_and c.from_residual-in_err-found.result c.from_residual-in_err-found.ensures.1 in
    let passed : c.from_residual-in_err-found.result ≡ Err c.in_err-found.field-0.0 = p.1 ∙ ap Err p.2 in
    let is = subst (λ l. Answers {A = List Bytes} (λ outcome. outcome ≡ all_files files l) (Err c.in_err-found.field-0.0)) (c.as_slice.ensures ∙ c.in_ok-implied.ensures)
    (some_at _ _ files t c.in_err-found.ensures.observed) in
    subst (Answers {A = List Bytes} (λ outcome. outcome ≡ local_files files (sought c.args.implicit c.args.project.now.entries))) (sym passed)
    (first-refused files (implied c.args.implicit) c.args.project.now.entries c.in_err-found.field-0.0 is))

pub returns-in_err-paths-clause-observed : goal.returns-in_err-paths-clause-observed
returns-in_err-paths-clause-observed g c = if_some _ _ (λ files t.
    let p = err_from_is_err_and c.from_residual-in_err-paths.result c.from_residual-in_err-paths.ensures.1 in
    let passed : c.from_residual-in_err-paths.result ≡ Err c.in_err-paths.field-0.0 = p.1 ∙ ap Err p.2 in
    let first = some_at _ _ files t c.in_ok-found.ensures.observed ∙ ap (all_files files) (c.as_slice.ensures ∙ c.in_ok-implied.ensures) in
    let others = some_at _ _ files (c.in_ok-found.ensures.folder.same_files ∙ t) c.in_ok-others.ensures.observed ∙ ap (all_files files) c.as_slice-2.ensures in
    let settles = subst (λ l. Settles {A = List Bytes} (λ outcome. outcome ≡ finished l) (Err c.in_err-paths.field-0.0)) c.in_ok-append.ensures.ok c.in_err-paths.ensures.outcome in
    subst (Answers {A = List Bytes} (λ outcome. outcome ≡ local_files files (sought c.args.implicit c.args.project.now.entries))) (sym passed)
    (all-found files (implied c.args.implicit) c.args.project.now.entries c.in_ok-found.found c.in_ok-others.others first others (Err c.in_err-paths.field-0.0) settles))
