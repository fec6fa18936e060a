use Rattle.std.proofs.Common.{sym, ap, ◌∙◌}
use Rattle.project_config.specs.Project.{first_too_large, located, project_files, texts_among, unless_large}
use Rattle.project_config.proofs.laws.one_folder_project.Goals as goal

pub returns : goal.returns
returns c env files a b is also =
    let read = c.one_outcome.ensures env (texts_among files project_files) is.1.0 also.1.0 is.1.1 also.1.1 in
    let said = is.1.2 ∙ ap (unless_large (first_too_large files project_files)) read ∙ sym also.1.2 in
    is.2 ∙ ap (located files) said ∙ sym also.2
