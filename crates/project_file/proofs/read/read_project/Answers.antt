use Rattle.std.proofs.Common.{◌≡◌, ◌<◌, ◌≤◌, Ok, Err, length, get_or, take, ap, subst, sym, ◌∙◌}
use Rattle.std.proofs.lemmas.Result.{err_from_is_err_and}
use Rattle.project_file.specs.Read.{IsProject}
use Rattle.project_file.proofs.ExtraPackages.{project-named}
use Rattle.project_file.proofs.ProjectFiles.{all-taken, halted-at, taken-more}
use Rattle.plan_types.specs.Refusal.{Settles}
use Rattle.project_file.proofs.read.read_project.Goals as goal

pub loop-text-init : goal.loop-text-init
loop-text-init c = c.empty_project-project.ensures c.args.env.now

pub loop-text-preserved : goal.loop-text-preserved
loop-text-preserved c =
    let s = c.as_slice-text-items.ensures in
    let n = c.loop-text.text-index in
    taken-more c.args.env.now c.args.texts.now n c.text-item.result c.in_ok-project.project (subst (λ l. n < length l) s c.loop-text-test.true)
    (subst (λ l. c.text-item.result ≡ get_or l n c.text-item.result) s c.text-item.is)
    (c.in_ok-project.ensures (take n c.args.texts.now) c.loop-text.invariant)

pub returns-clause-project : goal.returns-clause-project
returns-clause-project c =
    let n = c.loop-text.text-index in
    all-taken c.args.env.now c.args.texts.now n c.loop-text.project (subst (λ l. length l ≤ n) c.as_slice-text-items.ensures c.loop-text-test.false) c.loop-text.invariant

pub returns-clause-extra : goal.returns-clause-extra
returns-clause-extra c =
    let n = c.loop-text.text-index in
    let s = c.as_slice-text-items.ensures in
    project-named c.args.env.now c.args.texts.now (Ok c.loop-text.project)
    (all-taken c.args.env.now c.args.texts.now n c.loop-text.project (subst (λ l. length l ≤ n) s c.loop-text-test.false) c.loop-text.invariant)

pub returns-in_err-project-clause-project : goal.returns-in_err-project-clause-project
returns-in_err-project-clause-project c =
    let s = c.as_slice-text-items.ensures in
    let n = c.loop-text.text-index in
    let p = err_from_is_err_and c.from_residual.result c.from_residual.ensures.1 in
    let passed : c.from_residual.result ≡ Err c.in_err-project.field-0.0 = p.1 ∙ ap Err p.2 in
    subst (Settles (IsProject c.args.env.now c.args.texts.now)) (sym passed)
    (halted-at c.args.env.now c.args.texts.now n c.text-item.result _ (subst (λ l. n < length l) s c.loop-text-test.true)
    (subst (λ l. c.text-item.result ≡ get_or l n c.text-item.result) s c.text-item.is)
    (c.in_err-project.ensures (take n c.args.texts.now) c.loop-text.invariant))
