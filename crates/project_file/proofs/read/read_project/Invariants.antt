use Rattle.std.proofs.Common.{Ok, take}
use Rattle.project_file.specs.Read.{IsProject}
use Rattle.project_file.proofs.read.read_project.Given as goal

-- the project so far is that of the files so far
abbrev pub invariant-loop-text : goal.invariant-loop-text
invariant-loop-text l = IsProject l.env (take l.text-index l.texts) (Ok l.project)
