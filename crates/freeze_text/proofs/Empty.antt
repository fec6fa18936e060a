-- The project of no file, and values that are handed out.
use Rattle.std.proofs.Common.{◌≡◌, [], ap, ◌∙◌}
use Rattle.std.specs.Prelude.{IfOk, Result, Ok, Err}
use Rattle.plan_types.specs.declared.condition.Env.{Env}
use Rattle.plan_types.specs.declared.project.Project.{Project}
use Rattle.plan_types.specs.declared.refusal.Refusal.{Refusal}
use Rattle.project_file.specs.Project.{project_from}
use Rattle.project_file.specs.Read.{AllRead, IsProject, project_of}

any-env : Env
any-env = record { os = []; arch = []; compiler = []; compiler_version = record { parts = [] } }

same-ok : (x y : Project) → ◌≡◌ {A = Result Project Refusal} (Ok x) (Ok y) → x ≡ y
same-ok x y e = cc

pub no-file : (project : Project) → ((env : Env) → IsProject env [] (Ok project)) → project ≡ project_from []
unfolding AllRead
no-file project is = let found = is any-env in same-ok project (project_from []) (found.2 ∙ ap project_of found.1)

-- what follows of a value that was handed out
pub if-ok : {T E : Type 0} (P Q : T → Type 0) (r : Result T E) → ((x : T) → P x → Q x) → IfOk r P → IfOk r Q
if-ok P Q (Ok x) f h = f x h
if-ok P Q (Err e) f h = tt
