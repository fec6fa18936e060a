use Rattle.std.proofs.Common.{◌≡◌, Err, ◌∷◌, ◌++◌, [], ap, subst, sym, ◌∙◌}
use Rattle.std.proofs.lemmas.Result.{err_from_is_err_and}
use Rattle.project_file.specs.Read.{IsProject}
use Rattle.project_file.proofs.ProjectFiles.{one-halted, one-more}
use Rattle.project_file.specs.declared.read.ProjectText.{ProjectText}
use Rattle.plan_types.specs.Refusal.{Settles}
use Rattle.project_file.proofs.read.with_text.Goals as goal

pub returns : goal.returns
returns c before says = one-more c.args.env.now before (record { path = c.args.path.now; bytes = c.args.text.now }) c.args.project c.in_ok-parts.parts says c.in_ok-parts.ensures c.in_ok-take_file.ensures

pub returns-in_err-parts : goal.returns-in_err-parts
returns-in_err-parts c before says =
    let file : ProjectText = record { path = c.args.path.now; bytes = c.args.text.now } in
    let p = err_from_is_err_and c.from_residual.result c.from_residual.ensures.1 in
    let passed : c.from_residual.result ≡ Err c.in_err-parts.field-0.0 = p.1 ∙ ap Err p.2 in
    subst (Settles (IsProject c.args.env.now (before ++ file ∷ []))) (sym passed)
    (one-halted c.args.env.now before file c.args.project c.in_err-parts.field-0.0 says c.in_err-parts.ensures)
