use Rattle.std.proofs.Common.{◌≡◌, ℕ, List, Ok, Err, ◌∷◌, ◌++◌, [], ap, subst, sym, ◌∙◌}
use Rattle.std.proofs.lemmas.Result.{err_from_is_err_and}
use Rattle.plan_types.specs.Refusal.{Settles}
use Rattle.plan_types.specs.declared.project.Project.{Project}
use Rattle.plan_types.specs.declared.refusal.Halt.{Halt}
use Rattle.project_file.specs.Read.{IsProject, IsWithFile, halt_of}
use Rattle.project_file.specs.declared.read.ProjectText.{ProjectText}
use Rattle.project_file.proofs.ProjectFiles.{undecoded, with-halted}
use Rattle.project_file.proofs.read.with_project_file.Goals as goal

pub returns-in_err-project-in-Ok : goal.returns-in_err-project-in-Ok
returns-in_err-project-in-Ok c before says =
    let file : ProjectText = record { path = c.args.path.now; bytes = c.args.bytes } in
    let halt = c.in_err-project-in-Ok.field-0.0 in
    let p = err_from_is_err_and c.from_residual.result c.from_residual.ensures.1 in
    let passed : c.from_residual.result ≡ Err halt = p.1 ∙ ap Err p.2 in
    let halted = subst (λ (b : List ℕ). Settles {A = Project} (IsProject c.args.env.now (before ++ record { path = c.args.path.now; bytes = b } ∷ [])) (Err halt))
    (c.as_str.ensures ∙ c.in-Ok.ensures) (c.in_err-project-in-Ok.ensures before says) in
    subst (Settles {A = Project × List ℕ} (IsWithFile c.args.env.now before file)) (sym passed) (with-halted c.args.env.now before file halt halted)

pub returns-in_ok-project-in-Ok : goal.returns-in_ok-project-in-Ok
returns-in_ok-project-in-Ok c before says = (
  subst (λ (b : List ℕ). IsProject c.args.env.now (before ++ record { path = c.args.path.now; bytes = b } ∷ []) (Ok c.in_ok-project-in-Ok.project))
      (c.as_str.ensures ∙ c.in-Ok.ensures) (c.in_ok-project-in-Ok.ensures before says),
  c.in-Ok.ensures,
)

pub returns-in_ok-halt_of-in-Err : goal.returns-in_ok-halt_of-in-Err
returns-in_ok-halt_of-in-Err c before says =
    let file : ProjectText = record { path = c.args.path.now; bytes = c.args.bytes } in
    subst (λ (halt : Halt). Settles {A = Project × List ℕ} (IsWithFile c.args.env.now before file) (Err halt)) (sym c.in_ok-halt_of-in-Err.ensures)
    (with-halted c.args.env.now before file (halt_of c.args.path.now c.in-Err.fault) (undecoded c.args.env.now before file c.args.project c.in-Err.fault says c.in-Err.ensures))
