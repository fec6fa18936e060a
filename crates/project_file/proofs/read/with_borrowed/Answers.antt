use Rattle.std.proofs.Common.{ℕ, List, Err, ◌∷◌, ◌++◌, [], subst, sym, ◌∙◌}
use Rattle.cabal_lexer.specs.Fault.{IsFault}
use Rattle.plan_types.specs.Refusal.{RefusesAt, Settles}
use Rattle.plan_types.specs.declared.project.Project.{Project}
use Rattle.plan_types.specs.declared.refusal.Halt.{Halt}
use Rattle.project_file.specs.Read.{IsProject}
use Rattle.project_file.proofs.ProjectFiles.{undecoded}
use Rattle.project_file.proofs.read.with_borrowed.Goals as goal

pub returns-in-Ok : goal.returns-in-Ok
returns-in-Ok c before says =
    subst (λ (b : List ℕ). Settles {A = Project} (IsProject c.args.env.now (before ++ record { path = c.args.file.now.path; bytes = b } ∷ [])) c.with_text.result)
    (c.in-Ok.ensures ∙ c.as_slice.ensures) (c.with_text.ensures before says)

pub returns-in_ok-halt_of-in-Err : goal.returns-in_ok-halt_of-in-Err
returns-in_ok-halt_of-in-Err c before says =
    let bad = subst (λ (b : List ℕ). RefusesAt (IsFault b) c.in-Err.fault) c.as_slice.ensures c.in-Err.ensures in
    subst (λ (halt : Halt). Settles {A = Project} (IsProject c.args.env.now (before ++ c.args.file.now ∷ [])) (Err halt)) (sym c.in_ok-halt_of-in-Err.ensures)
    (undecoded c.args.env.now before c.args.file.now c.args.project c.in-Err.fault says bad)
