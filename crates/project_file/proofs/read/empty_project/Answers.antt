use Rattle.std.proofs.Common.{Ok, [], subst, sym}
use Rattle.plan_types.specs.declared.project.Project.{Project}
use Rattle.project_file.specs.Read.{IsProject}
use Rattle.project_file.proofs.ProjectFiles.{none-say}
use Rattle.project_file.proofs.read.empty_project.Goals as goal

pub returns : goal.returns
returns c env = subst (λ (project : Project). IsProject env [] (Ok project)) (sym c.nothing.ensures) (none-say env)
